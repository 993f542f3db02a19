use Rattle.std.proofs.Common.{string_bytes, sym, subst}
use Rattle.command_questions.specs.declared.certified.Question.{Question}
use Rattle.plan_commands.specs.Certified.{IsAnswer}
use Rattle.plan_commands.proofs.certified.text_of_checked.Goals as goal

pub returns-in_ok-way_between-in-Trace-clause-text : goal.returns-in_ok-way_between-in-Trace-clause-text
returns-in_ok-way_between-in-Trace-clause-text c =
    let way = c.in_ok-way_between-in-Trace in
    let checked = c.args.checked.now in
    subst (λ (q : Question). IsAnswer q checked.0 checked.1 (string_bytes way.field-0)) (sym c.in-Trace.is) way.ensures.text
