use Rattle.std.{proofs.Common.{◌≡◌, [], arith, length, sym, subst}, proofs.lemmas.Bool.Decides.{nat_tests}, proofs.lemmas.List.{nil_from_length}, specs.Cow.{cow_str_bytes}}
use Rattle.net_reached.proofs.Missed.{all_met}
use Rattle.command_answers.specs.declared.status.Status.{Status}
use Rattle.plan_commands.specs.Requiring.{AnswersWishes}
use Rattle.plan_commands.proofs.require.answer_of_wishes.Goals as goal

pub returns-then-is_empty : goal.returns-then-is_empty
returns-then-is_empty c =
    let plan = c.args.checked.now.0 in
    let wishes = c.args.wishes.now in
    let S : Status → Type 0 = λ s. AnswersWishes plan wishes s (cow_str_bytes c.yes.result.text) in
    let count : length c.in_ok-unmet.unmet.items ≡ 0 = grind (arith, nat_tests, c.is_empty.ensures, c.if-is_empty.true) in
    let none : c.in_ok-unmet.unmet.items ≡ [] = nil_from_length c.in_ok-unmet.unmet.items count in
    subst S (sym c.yes.ensures.status) (all_met plan wishes c.in_ok-unmet.unmet.items c.in_ok-unmet.ensures none, c.yes.ensures.text)
