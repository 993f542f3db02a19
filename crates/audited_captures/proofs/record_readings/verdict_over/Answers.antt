use Rattle.std.{proofs.Common.{rules, ◌<◌, ◌≤◌, ℕ, List, [], ◌∷◌, ◌++◌, length, slice_index, take, subst, sym}, proofs.lemmas.List.{take_more, take_all}}
use Rattle.pdr_repository.specs.Records.{entries}
use Rattle.audited_captures.{specs.RecordParts.{record_part_value}, specs.AsPlanned.{IsAmong}, specs.RecordSteps.{IsVerdictOver}, specs.declared.record_readings.Verdict.{Verdict}, proofs.RecordLaws.{over_more}}
use Rattle.audited_captures.proofs.record_readings.verdict_over.Goals as goal

pub loop-start-preserved : goal.loop-start-preserved
loop-start-preserved c =
    let records = entries c.args.records.now in
    let place = c.args.place in
    let x = record_part_value c.args.part.now in
    let starts = c.args.starts.now in
    let i = c.loop-start.start-index in
    let within : i < length starts = search rules in
    subst (λ (ss : List ℕ). IsVerdictOver records place (λ k. IsAmong k ss) x c.better-verdict.result) (sym (take_more starts i 0 within))
    (subst (λ (v : Verdict). IsVerdictOver records place (λ k. IsAmong k (take i starts ++ slice_index starts i ∷ [])) x v) (sym c.better-verdict.ensures)
    (over_more records place x (take i starts) (slice_index starts i) c.loop-start.verdict c.verdict_at.result c.loop-start.invariant c.verdict_at.ensures))

pub returns : goal.returns
returns c =
    let starts = c.args.starts.now in
    let i = c.loop-start.start-index in
    let past : length starts ≤ i = search rules in
    subst (λ (ss : List ℕ). IsVerdictOver (entries c.args.records.now) c.args.place (λ k. IsAmong k ss) (record_part_value c.args.part.now) c.loop-start.verdict) (take_all i starts past) c.loop-start.invariant
