-- What an obstacle that comes later is.
use Rattle.std.proofs.Common.{◌≡◌, ◌≢◌, ℕ, List, [], ◌∷◌, Some, None, Ok, sym, subst}
use Rattle.net_explained.{specs.Edits.{IsEdited}, specs.Obstacles.{IsLater, IsLeft, IsTried, key_of}, specs.declared.trial.Tried.{Tried}}
use Rattle.plan_values.{specs.PlanValues.{PlanValue, plan_value}, specs.declared.plan.Plan.{Plan}}
use Rattle.net_rules.{specs.Faults.{LessByFirstDifference}, specs.declared.certify_error.CertifyError.{CertifyError}}
use Rattle.net_rules.specs.declared.certify_error.CertifyError.TheVariants as error

-- no numbers come before none
pub not_less : (numbers : List ℕ) → ¬ LessByFirstDifference numbers []
not_less [] h = h
not_less (n ∷ rest) h = h

-- want of memory comes behind nothing
pub later_known : (first second : CertifyError) → IsLater first second → second ≢ error.OutOfMemory
later_known first second h is = not_less (key_of first) (subst (λ (o : CertifyError). IsLater first o) is h)

-- an edit of a plan that has the value of the given one
pub tried_so : (v w : PlanValue) (obstacle : CertifyError) (after : Plan) (tried : Tried) → v ≡ w → IsEdited w tried.edit (plan_value after) → IsLeft obstacle after tried.left
    → IsTried v obstacle tried
tried_so v w obstacle after tried same by left = record {
  after = after;
  by_edit = subst (λ (u : PlanValue). IsEdited u tried.edit (plan_value after)) (sym same) by;
  left = left;
}
