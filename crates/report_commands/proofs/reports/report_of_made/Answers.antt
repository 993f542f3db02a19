use Rattle.std.proofs.Common.{string_bytes}
use Rattle.report_commands.proofs.Reported.{fits}
use Rattle.report_commands.proofs.reports.report_of_made.Goals as goal

pub returns : goal.returns
returns c =
    fits c.args.plan.now (string_bytes c.in_ok-page.page) c.found.result c.args.certificate.now c.requires c.in_ok-page.ensures c.found.ensures.status
    c.found.ensures.text
