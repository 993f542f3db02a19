use Rattle.plan_commands.proofs.Kept.{makes_so}
use Rattle.plan_commands.proofs.make.answer_make.Goals as goal

pub returns-in-Made-clause-answers : goal.returns-in-Made-clause-answers
returns-in-Made-clause-answers g c = makes_so (g.F.RecordFiles.holds c.args.files.now) _ c.in_ok-made.field-0 c.in-Made.made _ _ c.in-Made.is c.in_ok-made.ensures c.found.ensures.status c.found.ensures.text
