use Rattle.std.proofs.Common.{sym, subst}
use Rattle.command_questions.specs.declared.certified.CertifiedJson.{CertifiedJson}
use Rattle.command_answers.specs.Naming.{NameTheEnds}
use Rattle.json_commands.specs.Certified.{IsNamedIn}
use Rattle.json_commands.proofs.certified.is_named_in.Goals as goal

pub returns-in-Some-clause-yes : goal.returns-in-Some-clause-yes
returns-in-Some-clause-yes c = λ yes.
    let plan = c.args.plan.now in
    let ends = c.in-Some._ends in
    let named : NameTheEnds c.in-Trace.from.now c.in-Trace.to.now plan = ((ends.0, c.in-Some.ensures.0), (ends.1.value, c.in-Some.ensures.1)) in
    subst (λ (q : CertifiedJson). IsNamedIn q plan) (sym c.in-Trace.is) named

pub returns-in-None-clause-no : goal.returns-in-None-clause-no
returns-in-None-clause-no c = λ no.
    subst (λ (q : CertifiedJson). ¬ IsNamedIn q c.args.plan.now) (sym c.in-Trace.is) c.in-None.ensures
