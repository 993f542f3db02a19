use Rattle.std.proofs.Common.{string_bytes}
use Rattle.report_commands.proofs.Reported.{given_fits}
use Rattle.report_commands.proofs.reports.report_of_given.Goals as goal

pub returns-clause-answers : goal.returns-clause-answers
returns-clause-answers c =
    let both = c.args.checked.now in
    given_fits both.0 (string_bytes c.in_ok-page.page) c.found.result both.1 c.plan-known.ensures.accepted c.in_ok-page.ensures c.found.ensures.status
    c.found.ensures.text
