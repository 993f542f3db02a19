use Rattle.std.{proofs.Common.{string_bytes, subst, sym}, specs.Cow.{cow_str_bytes}}
use Rattle.command_answers.specs.declared.status.Status.{Status}
use Rattle.explain_commands.specs.Explaining.{IsSoundText, IsExplained}
use Rattle.explain_commands.proofs.explain.explained_plan.Goals as goal

pub returns-in_ok-sound_text-in-Ok-clause-answers : goal.returns-in_ok-sound_text-in-Ok-clause-answers
returns-in_ok-sound_text-in-Ok-clause-answers c =
    let plan = c.args.given.now.plan in
    let text = c.in_ok-sound_text-in-Ok in
    let sound : IsSoundText plan (string_bytes text.field-0) = record { certificate = c.in-Ok.certificate; accepted = c.in-Ok.ensures.accepted; exact = c.in-Ok.ensures.exact; written = text.ensures } in
    let S : Status → Type 0 = λ s. IsExplained c.args.name.now c.args.given.now.text.items plan s (cow_str_bytes c.found.result.text) in
    subst S (sym c.found.ensures.status) (subst (IsSoundText plan) (sym c.found.ensures.text) sound)
