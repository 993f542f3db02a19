use Rattle.std.{proofs.Common.{◌≡◌, ◌≢◌, [], length, arith, false, sym, subst, refl}, proofs.lemmas.Bool.Decides.{nat_tests}, proofs.lemmas.List.{nil_from_length}, specs.Prelude.{IfOk, Result, Ok, Err, ⊤}}
use Rattle.verify_commands.{specs.declared.parts.Judged.{Judged}, specs.Parts.{IsClean, LooksWrong, Says}, proofs.Fitting.{clean_of, says_also, wrong_of}}
use Rattle.verify_commands.proofs.plans.judge_lint.Goals as goal

pub returns-then-is_empty-clause-verdict : goal.returns-then-is_empty-clause-verdict
returns-then-is_empty-clause-verdict c =
    let findings = c.in_ok-findings.findings.items in
    let count : length findings ≡ 0 = grind (arith, nat_tests, c.is_empty.ensures, c.if-is_empty.true) in
    let none : findings ≡ [] = nil_from_length findings count in
    subst (λ v. Says v (IsClean c.args.plan.now) (LooksWrong c.args.plan.now) (c.args.is_strict ≡ false)) (sym c.holds.ensures.verdict)
    (clean_of c.args.plan.now findings c.in_ok-findings.ensures none)

wrong_also : {E : Type 0} (r : Result Judged E) (good bad is_noted : Type 0) → bad → IfOk r (λ judged. Says judged.verdict ⊥ ⊤ is_noted) → IfOk r (λ judged. Says judged.verdict good bad is_noted)
wrong_also (Ok judged) good bad is_noted is said = says_also judged.verdict ⊥ good ⊤ bad is_noted (λ never. absurd never) (λ _. is) said
wrong_also (Err e) good bad is_noted is said = tt

pub returns-clause-verdict : goal.returns-clause-verdict
returns-clause-verdict c =
    let findings = c.in_ok-findings.findings.items in
    let some : findings ≢ [] = λ none. (let count : length findings ≡ 0 = subst (λ fs. length fs ≡ 0) (sym none) refl in grind (arith, nat_tests, c.is_empty.ensures, c.if-is_empty.false, count)) in
    wrong_also c.judge_wrong.result (IsClean c.args.plan.now) (LooksWrong c.args.plan.now) (c.args.is_strict ≡ false) (wrong_of c.args.plan.now findings c.in_ok-findings.ensures some) c.judge_wrong.ensures.verdict
