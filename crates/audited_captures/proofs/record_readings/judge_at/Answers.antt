use Rattle.std.proofs.Common.{◌≡◌, ◌∙◌, ap, ℕ, List, subst}
use Rattle.pdr_repository.specs.Records.{entries}
use Rattle.audited_captures.{specs.RecordParts.{record_part_value}, specs.AsPlanned.{IsAmong}, specs.RecordSteps.{starts_of, AddsLeads, IsVerdictOver}}
use Rattle.audited_captures.proofs.record_readings.judge_at.Goals as goal

pub returns-clause-verdict : goal.returns-clause-verdict
returns-clause-verdict c =
    let x = record_part_value c.args.part.now in
    let is : c.deref-3.result.now ≡ starts_of c.args.place x.asked c.args.leads.now.items = c.deref-3.ensures.value ∙ c.in_ok-starts.ensures ∙ ap (starts_of c.args.place x.asked) c.deref.ensures.value in
    subst (λ (ss : List ℕ). IsVerdictOver (entries c.args.records.now) c.args.place (λ o. IsAmong o ss) x c.verdict_over.result) is c.verdict_over.ensures

pub returns-clause-leads : goal.returns-clause-leads
returns-clause-leads c =
    let x = record_part_value c.args.part.now in
    let is : c.deref-2.result.now ≡ starts_of c.args.place x.asked c.args.leads.now.items = c.deref-2.ensures.value ∙ c.in_ok-starts.ensures ∙ ap (starts_of c.args.place x.asked) c.deref.ensures.value in
    subst (λ (ss : List ℕ). AddsLeads (entries c.args.records.now) c.args.place ss x c.args.leads.now.items c.add_leads.new.leads.items) is c.in_ok-add_leads.ensures
