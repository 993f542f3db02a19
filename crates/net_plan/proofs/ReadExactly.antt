-- What a reader answers that takes no memory, or only where it said so.
use Rattle.std.proofs.Common.{◌≡◌, Result, Ok, Err, sym}
use Rattle.net_plan.{specs.Reading.{IsReadOf}, specs.declared.error.ValueFault.{ValueFault}}

pub read_exactly : {A : Type 0} (said r : Result A ValueFault) → r ≡ said → IsReadOf (λ x. x) said r
read_exactly said (Ok x) e = sym e
read_exactly said (Err fault) e = λ known. sym e
