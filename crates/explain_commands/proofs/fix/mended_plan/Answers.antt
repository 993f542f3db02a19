use Rattle.std.specs.Cow.{cow_str_bytes}
use Rattle.explain_commands.proofs.Mended.{mended_so}
use Rattle.explain_commands.proofs.fix.mended_plan.Goals as goal

pub returns : goal.returns
returns c =
    let answer = c.in_ok-answer.answer in
    mended_so c.args.given.text.items c.args.given.plan c.in_ok-draft.field-0.draft answer.status (cow_str_bytes answer.text) c.in_ok-draft.ensures.0 c.in_ok-answer.ensures
