use Rattle.std.proofs.Common.{codes, string_bytes, subst}
use Rattle.plan_pages.specs.Pages.{TellsVerdict}
use Rattle.report_commands.proofs.Reported.{ruled_out}
use Rattle.report_commands.proofs.reports.report_of_obstacle.Goals as goal

pub returns : goal.returns
returns c =
    let page = string_bytes c.in_ok-page.page in
    let told = subst (λ line. TellsVerdict (codes "no") line page) c.deref.ensures c.in_ok-page.ensures in
    ruled_out c.args.plan.now page c.fault.result c.args.obstacle.now (string_bytes c.in_ok-line.line) c.requires.named c.requires.none c.in_ok-line.ensures told
    c.fault.ensures.status c.fault.ensures.text
