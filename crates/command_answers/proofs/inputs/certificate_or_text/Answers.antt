use Rattle.net_plan.{specs.CertificateReading.{certificate}, specs.CertificateText.{IsCertificateOf}}
use Rattle.plan_values.specs.PlanValues.{plan_value, node_names}
use Rattle.net_pointers.specs.Asks.{certificate_text}
use Rattle.command_answers.proofs.UnreadInputs.{unread_by}
use Rattle.command_answers.proofs.inputs.certificate_or_text.Goals as goal

pub returns-in-Ok-clause-unread : goal.returns-in-Ok-clause-unread
returns-in-Ok-clause-unread g c =
    let read = c.in-Ok.ensures in
    let p = plan_value c.args.plan.now in
    unread_by (certificate_text (node_names p.nodes)) (certificate (node_names p.nodes)) (IsCertificateOf p) _ c.in-Ok.text.items c.certificate_in.result read.all read.end read.within c.certificate_in.ensures.unread
