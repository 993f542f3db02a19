use Rattle.std.{proofs.Common.{rules, ◌≡◌, ◌<◌, List, ℕ, [], length, slice_index_or, string_bytes, subst, sym}, specs.Prelude.{option_map}}
use Rattle.decoded_texts.proofs.SeenLaws.{HasTold, nothing_told, next_told}
use Rattle.decoded_texts.proofs.decoding.lines_by.Goals as goal

pub loop-i-init : goal.loop-i-init
loop-i-init c =
    let plan = option_map (λ n. n.now.plan.now) c.args.names in
    let stations = c.new-stations.result in
    subst (λ (text : List ℕ). HasTold plan [] stations text) (sym c.new-text.ensures.bytes) (nothing_told plan stations c.new-stations.ensures)

pub loop-i-preserved : goal.loop-i-preserved
loop-i-preserved c =
    let plan = option_map (λ n. n.now.plan.now) c.args.names in
    let items = c.args.capture.now.entries.items in
    let i = c.loop-i.i in
    let item = c.entry-item.result in
    let within : i < length items = search rules in
    let is : item ≡ slice_index_or items i item = search rules in
    next_told plan items i item c.loop-i.stations c.push_entry.new.stations (string_bytes c.loop-i.text) _ within is c.loop-i.invariant c.in_ok-push_entry.ensures
