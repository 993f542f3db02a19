use Rattle.std.{proofs.Common.{◌≡◌, ◌++◌, rules, string_bytes, subst}, specs.Prelude.{option_map}}
use Rattle.bus_captures.specs.Values.{entry_value}
use Rattle.heard_captures.{specs.Sights.{seen_of}, specs.Steps.{Sees}}
use Rattle.decoded_texts.proofs.SeenLaws.{step_if}
use Rattle.decoded_texts.proofs.entries.push_entry.Goals as goal

pub returns : goal.returns
returns c =
    let old = c.args.stations.now in
    let new = c.see.new.stations in
    let e = entry_value c.args.entry.now in
    let s = seen_of c.in_ok-sight.sight in
    let before = string_bytes c.args.text.now in
    let headed : string_bytes c.push_str.new.self ≡ before ++ string_bytes c.in_ok-head_text.field-0 = search rules in
    step_if (option_map (λ n. n.now.plan.now) c.args.names) old new e s before (string_bytes c.in_ok-head_text.field-0) _ _ c.push_sight.result
    (subst (λ n. Sees n old new e s) c.unit_by.ensures.unit c.in_ok-sight.ensures) headed c.push_sight.ensures
