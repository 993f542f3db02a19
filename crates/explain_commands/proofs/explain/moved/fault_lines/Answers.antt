use Rattle.std.proofs.Common.{string_bytes}
use Rattle.explain_commands.proofs.ExplainedMoves.{by_cause, without_cause}
use Rattle.explain_commands.proofs.explain.moved.fault_lines.Goals as goal

pub returns-in-Some : goal.returns-in-Some
returns-in-Some c = by_cause string_bytes c.args.given.now.plan c.args.fault.now c.in-Some.cause c.cause_text.result c.in-Some.ensures c.cause_text.ensures

pub returns-in-None : goal.returns-in-None
returns-in-None c = without_cause string_bytes c.args.given.now.plan c.args.fault.now c.edits_text.result c.in-None.ensures c.edits_text.ensures
