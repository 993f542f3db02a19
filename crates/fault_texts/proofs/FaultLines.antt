-- Lines of faults, one after the other.
use Rattle.std.{proofs.Common.{◌≡◌, ◌++◌, ℕ, List, [], ◌∷◌, Result, Ok, Err, Some, codes, sym, subst}, specs.Prelude.{IfOk}}
use Rattle.plan_values.specs.declared.plan.Plan.{Plan}
use Rattle.net_faults.specs.declared.plan_fault.PlanFault.{PlanFault}
use Rattle.fault_texts.{specs.FaultListLines.{AreFaultLines, IsFaultLine, plan_fault_words}, specs.Places.{IsAtTold, plan_fault_pointer}}

-- one more line, of the next fault
pub one_more : (plan : Plan) (name text : List ℕ) (faults more : List PlanFault) (fault : PlanFault) (lines line longer : List ℕ) → AreFaultLines plan name text faults lines
    → IsFaultLine plan name text fault line → more ≡ faults ++ fault ∷ [] → longer ≡ lines ++ line → AreFaultLines plan name text more longer
one_more plan name text faults more fault lines line longer before this same written =
    subst (λ rs. AreFaultLines plan name text rs longer) (sym same) (subst (λ l. AreFaultLines plan name text (faults ++ fault ∷ []) l) (sym written) (AreFaultLines.more fault line before this))

-- words with a place behind them are a line
pub line_placed : {T E : Type 0} (bytes : T → List ℕ) (plan : Plan) (name text : List ℕ) (fault : PlanFault) (words at : List ℕ) (result : Result T E) → plan_fault_words plan fault ≡ Some words
    → IsAtTold name text (plan_fault_pointer plan fault) at → IfOk result (λ line. bytes line ≡ words ++ (at ++ codes "\n"))
    → IfOk result (λ line. IsFaultLine plan name text fault (bytes line))
line_placed bytes plan name text fault words at (Ok line) said there is = (words, at, said, there, is)
line_placed bytes plan name text fault words at (Err why) said there is = tt
