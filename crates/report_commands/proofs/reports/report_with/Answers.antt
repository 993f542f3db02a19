use Rattle.std.{proofs.Common.{subst}, specs.Prelude.{IfOk}, specs.Cow.{cow_str_bytes}}
use Rattle.plan_values.{specs.declared.certificate.Certificate.{Certificate}, specs.declared.plan.Plan.{Plan}}
use Rattle.command_answers.specs.declared.answer.Answer.{Answer}
use Rattle.report_commands.specs.Reporting.{ReportsWith}
use Rattle.report_commands.proofs.reports.report_with.Goals as goal

pub returns-in-Ok-clause-answers : goal.returns-in-Ok-clause-answers
returns-in-Ok-clause-answers c =
    subst (λ (p : Plan × Certificate). IfOk c.report_of_given.result (λ (a : Answer). ReportsWith p.0 p.1 a.status (cow_str_bytes a.text)))
    c.in-Ok.ensures.checked c.report_of_given.ensures.answers
