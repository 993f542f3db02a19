use Rattle.std.{proofs.Common.{subst, sym}, specs.Cow.{cow_str_bytes}}
use Rattle.command_answers.specs.declared.status.Status.{Status}
use Rattle.explain_commands.{specs.Explaining.{IsSummedUp, IsBothExplained}, proofs.Explained.{explained_so}}
use Rattle.explain_commands.proofs.explain.certified.answer_of_both.Goals as goal

pub returns-in_ok-sound_text-in-Ok-clause-answers : goal.returns-in_ok-sound_text-in-Ok-clause-answers
returns-in_ok-sound_text-in-Ok-clause-answers c =
    let text = c.in_ok-sound_text-in-Ok in
    let S : Status → Type 0 = λ s. IsBothExplained c.args.name.now c.args.certified_by.now c.args.given.now.text.items c.args.given.now.plan c.args.certificate.now s (cow_str_bytes c.found.result.text) in
    let summed = subst (IsSummedUp c.args.given.now.plan) (sym c.found.ensures.text) text.ensures in
    subst S (sym c.found.ensures.status) (c.in-Ok.ensures.accepted, summed)

pub returns-in-Err-clause-answers : goal.returns-in-Err-clause-answers
returns-in-Err-clause-answers c = explained_so c.args.name.now c.args.certified_by.now c.args.given.now.text.items c.args.given.now.plan c.args.certificate.now c.explained.result c.explained.ensures.answers
