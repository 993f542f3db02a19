use Rattle.std.proofs.Common.{codes, string_bytes, subst}
use Rattle.plan_pages.specs.Pages.{TellsVerdict}
use Rattle.report_commands.proofs.Reported.{faulty}
use Rattle.report_commands.proofs.reports.report_of_fault.Goals as goal

pub returns-clause-answers : goal.returns-clause-answers
returns-clause-answers c =
    let page = string_bytes c.in_ok-page.page in
    let told = subst (λ line. TellsVerdict (codes "no") line page) c.deref.ensures c.in_ok-page.ensures in
    faulty c.args.plan.now page c.fault.result c.args.certificate.now c.args.error.now (string_bytes c.in_ok-line.line) c.requires c.in_ok-line.ensures.text told
    c.fault.ensures.status c.fault.ensures.text
