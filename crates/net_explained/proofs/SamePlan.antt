-- A text stands for one plan.
use Rattle.std.proofs.Common.{◌≡◌, ℕ, List, Option, Some, Ok, ◌∙◌, sym, subst}
use Rattle.net_plan.{proofs.PlanLaw.{plan_tells}, proofs.Telling.{same_Ok}, specs.PlanText.{IsPlanOf}, specs.Texts.{IsJsonTextOf}}
use Rattle.plan_values.specs.PlanValues.{PlanValue}

same_some : {A : Type 0} (o : Option A) (d e : A) → o ≡ Some d → o ≡ Some e → d ≡ e
same_some o d e one other = cc (one, other)

pub same_plan : (text : List ℕ) (p q : PlanValue) → IsJsonTextOf IsPlanOf text p → IsJsonTextOf IsPlanOf text q → p ≡ q
same_plan text p q one other =
    let same : one.0 ≡ other.0 = same_some _ one.0 other.0 one.1.1 other.1.1 in
    same_Ok (sym (plan_tells.whole other.0 p (subst (λ d. IsPlanOf d p) same one.3)) ∙ plan_tells.whole other.0 q other.3)
