use Rattle.std.{proofs.Common.{rules, arith, ◌≡◌, ◌<◌, ◌≤◌, ◌+◌, List, length, slice_index_or, map, subst, sym}, proofs.lemmas.List.{length-map}}
use Rattle.pdr_repository.specs.Records.{entries}
use Rattle.audited_captures.{specs.RecordParts.{record_part_value}, specs.RecordSteps.{AreVerdicts}, specs.declared.record_readings.Verdict.{Verdict}, proofs.RecordLaws.{item_at, verdicts_more}}
use Rattle.audited_captures.proofs.record_readings.verdicts_of.Goals as goal

pub loop-part-preserved : goal.loop-part-preserved
loop-part-preserved c =
    let records = entries c.args.records.now in
    let items = c.args.parts.now in
    let parts = map record_part_value items in
    let i = c.loop-part.part-index in
    let item = c.part-item.result in
    let x = record_part_value item in
    let within : i < length items = search rules in
    let is : item ≡ slice_index_or items i item = search rules in
    let at = item_at record_part_value items i item within is in
    let judged = c.in_ok-judge.ensures i parts at c.loop-part.invariant.0 in (
      judged.1,
      subst (λ (vs : List Verdict). AreVerdicts records parts (i + 1) vs) (sym c.in_ok-push.ensures.items) (verdicts_more records parts i x c.in_ok-judge.field-0 c.loop-part.verdicts.items c.loop-part.invariant.1 at judged.0),
    )

pub returns : goal.returns
returns c =
    let items = c.args.parts.now in
    let i = c.loop-part.part-index in
    let past : length items ≤ i = search rules in
    let end : i ≡ length (map record_part_value items) = omega (arith, past, c.loop-part.auto.part-index-end, length-map items record_part_value) in
    subst (λ k. AreVerdicts (entries c.args.records.now) (map record_part_value items) k c.loop-part.verdicts.items) end c.loop-part.invariant.1
