use Rattle.std.proofs.Common.{◌≡◌, ◌⊎◌, ◌↔◌, List, subst, sym}
use Rattle.audited_captures.{specs.AsPlanned.{IsAmong}, specs.declared.record_readings.Lead.{Lead}, proofs.RecordLaws.{push_iff}}
use Rattle.audited_captures.proofs.record_readings.add_lead.Goals as goal

pub returns-in_ok-push : goal.returns-in_ok-push
returns-in_ok-push c = λ l.
    subst (λ (items : List Lead). IsAmong l items ↔ (IsAmong l c.args.leads.now.items ⊎ (c.args.lead ≡ l))) (sym c.in_ok-push.ensures.items) (push_iff l c.args.lead c.args.leads.now.items)
