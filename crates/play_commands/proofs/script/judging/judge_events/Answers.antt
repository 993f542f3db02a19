use Rattle.play_commands.proofs.Scripted.{not_done}
use Rattle.play_commands.proofs.script.judging.judge_events.Goals as goal

pub returns-clause-judged : goal.returns-clause-judged
returns-clause-judged c =
    not_done c.args.node c.args.script.now c.args.checked.0 c.plan-plan.result.now c.args.checked.1 c.args.events.now c.in_ok-last.field-0 c.in-Some.last
    c.plan-plan.ensures.plan c.in-Some.is c.in_ok-last.ensures.ends c.if-is_done.ensures
