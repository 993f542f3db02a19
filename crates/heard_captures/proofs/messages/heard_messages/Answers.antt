use Rattle.std.proofs.Common.{rules, ◌≡◌, ◌<◌, [], List, length, slice_index_or, subst, sym, map}
use Rattle.heard_captures.{specs.Messages.{message_value}, specs.declared.messages.Message.{Message}, proofs.HearingLaws.{HaveHeard, nothing_heard, next_heard}}
use Rattle.heard_captures.proofs.messages.heard_messages.Goals as goal

pub loop-entry-init : goal.loop-entry-init
loop-entry-init c =
    let stations = c.new-stations.result in
    let tally = c.new-tally.result in
    subst (λ (messages : List Message). HaveHeard c.args.unit [] stations tally (map message_value messages)) (sym c.new-messages.ensures.items)
    (nothing_heard c.args.unit stations tally c.new-stations.ensures c.new-tally.ensures)

pub loop-entry-preserved : goal.loop-entry-preserved
loop-entry-preserved c =
    let items = c.args.capture.now.entries.items in
    let i = c.loop-entry.entry-index in
    let item = c.entry-item.result in
    let within : i < length items = search rules in
    let is : item ≡ slice_index_or items i item = search rules in
    next_heard c.args.unit items i item c.loop-entry.stations c.hear.new.stations c.loop-entry.tally c.hear.new.tally c.loop-entry.messages.items c.hear.new.messages.items within is c.loop-entry.invariant c.in_ok-hear.ensures
