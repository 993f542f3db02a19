use Rattle.std.proofs.Common.{rules, ◌≡◌, ℕ, is_some, true, false, sym, subst}
use Rattle.mctp_transport.specs.declared.address.Eid.{Eid}
use Rattle.command_questions.specs.declared.certified.Question.{Question}
use Rattle.plan_commands.{specs.Certified.{IsNamedIn}, proofs.Questions.{was_found, was_not_found}}
use Rattle.command_answers.specs.Naming.{IsDestination, NameTheEnds, IsFirstNamed}
use Rattle.plan_commands.proofs.certified.is_named_in.Goals as goal

pub returns-in-Trace-clause-yes : goal.returns-in-Trace-clause-yes
returns-in-Trace-clause-yes c = λ yes.
    let plan = c.args.plan.now in
    let from = c.in-Trace.from.now in
    let to = c.in-Trace.to.now in
    let Are : ℕ × Eid → Type 0 = λ ends. IsFirstNamed plan from ends.0 × IsDestination plan to ends.1.value in
    let is : is_some c.named_ends.result ≡ true = search rules in
    let found = was_found (¬ NameTheEnds from to plan) Are c.named_ends.result c.named_ends.ensures is in
    let named : NameTheEnds from to plan = ((found.0.0, found.1.0), (found.0.1.value, found.1.1)) in
    subst (λ (q : Question). IsNamedIn q plan) (sym c.in-Trace.is) named

pub returns-in-Trace-clause-no : goal.returns-in-Trace-clause-no
returns-in-Trace-clause-no c = λ no.
    let plan = c.args.plan.now in
    let from = c.in-Trace.from.now in
    let to = c.in-Trace.to.now in
    let Are : ℕ × Eid → Type 0 = λ ends. IsFirstNamed plan from ends.0 × IsDestination plan to ends.1.value in
    let is : is_some c.named_ends.result ≡ false = search rules in
    let none : ¬ NameTheEnds from to plan = was_not_found (¬ NameTheEnds from to plan) Are c.named_ends.result c.named_ends.ensures is in
    subst (λ (q : Question). ¬ IsNamedIn q plan) (sym c.in-Trace.is) none
