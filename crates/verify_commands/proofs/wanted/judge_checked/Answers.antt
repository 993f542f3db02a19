use Rattle.std.{proofs.Common.{◌≡◌, [], arith, length, sym, subst}, proofs.lemmas.Bool.Decides.{nat_tests}, proofs.lemmas.List.{nil_from_length}, specs.Prelude.{All}}
use Rattle.net_reached.{specs.Wishes.{IsMet}, proofs.Missed.{all_met}}
use Rattle.verify_commands.specs.Parts.{HasUnmet, Says}
use Rattle.verify_commands.proofs.wanted.judge_checked.Goals as goal

pub returns-then-is_empty-clause-verdict : goal.returns-then-is_empty-clause-verdict
returns-then-is_empty-clause-verdict c =
    let plan = c.args.checked.now.0 in
    let wishes = c.args.wishes.now in
    let unmet = c.in_ok-unmet.unmet.items in
    let count : length unmet ≡ 0 = grind (arith, nat_tests, c.is_empty.ensures, c.if-is_empty.true) in
    let none : unmet ≡ [] = nil_from_length unmet count in
    subst (λ v. Says v (All (IsMet plan) wishes) (HasUnmet plan wishes) ⊥) (sym c.holds.ensures.verdict) (all_met plan wishes unmet c.in_ok-unmet.ensures none)
