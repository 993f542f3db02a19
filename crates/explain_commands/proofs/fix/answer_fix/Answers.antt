use Rattle.std.proofs.Common.{inl}
use Rattle.explain_commands.proofs.fix.answer_fix.Goals as goal

pub returns-in_ok-mended_plan-in-Ok-clause-answers : goal.returns-in_ok-mended_plan-in-Ok-clause-answers
returns-in_ok-mended_plan-in-Ok-clause-answers g c =
    let given = c.in-Ok.given in
    inl (given.text.items, given.plan, c.in-Ok.ensures.given, c.in_ok-mended_plan-in-Ok.ensures)
