use Rattle.std.{proofs.Common.{◌≡◌, ℕ, ◌+◌, sym, ◌∙◌, subst}, specs.Prelude.{Option, Some, None}}
use Rattle.pdr_repository.specs.Records.{entries}
use Rattle.audited_captures.{specs.RecordParts.{record_part_value}, specs.RecordReadings.{place_of, Begins}, specs.AsPlanned.{IsAmong}, specs.RecordSteps.{starts_of, AddsLeads, AreLeads, IsVerdict, IsVerdictBy, IsVerdictOver}, proofs.RecordLaws.{ok_also, on_also, over_so, starts_are, leads_more, leads_same}}
use Rattle.audited_captures.proofs.record_readings.judge.Goals as goal

pub returns-in-None : goal.returns-in-None
returns-in-None c =
    let records = entries c.args.records.now in
    let x = record_part_value c.args.part.now in
    let none : place_of records x.asked.handle ≡ None = sym c.place_of.ensures ∙ c.in-None.is in
    λ i parts at are. (
      subst (λ (o : Option ℕ). IsVerdictBy records (Begins records parts i) x o c.verdict_beside.result) (sym none) c.verdict_beside.ensures,
      leads_same records parts i x at c.args.leads.now.items are none,
    )

pub returns-in-Some : goal.returns-in-Some
returns-in-Some c =
    let records = entries c.args.records.now in
    let x = record_part_value c.args.part.now in
    let place = c.in-Some.place in
    let leads = c.args.leads.now.items in
    let is : place_of records x.asked.handle ≡ Some place = sym c.place_of.ensures ∙ c.in-Some.is in
    λ i parts at are. (
      ok_also (λ v. IsVerdictOver records place (λ o. IsAmong o (starts_of place x.asked leads)) x v) (λ v. IsVerdict records parts i x v) c.judge_at.result
          (λ v over. subst (λ (o : Option ℕ). IsVerdictBy records (Begins records parts i) x o v) (sym is)
          (over_so records place x (λ o. IsAmong o (starts_of place x.asked leads)) (Begins records parts i place) v (starts_are records parts i x at leads are place is) over))
          c.judge_at.ensures.verdict,
      on_also (AddsLeads records place (starts_of place x.asked leads) x leads c.judge_at.new.leads.items) (AreLeads records parts (i + 1) c.judge_at.new.leads.items) c.judge_at.result
          (leads_more records parts i x at leads are place c.judge_at.new.leads.items is) c.judge_at.ensures.leads,
    )
