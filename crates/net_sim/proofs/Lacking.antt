-- Where memory is wanted, room was lacking.
use Rattle.std.{proofs.Common.{Result, Ok, Err}, specs.Prelude.{OnErr, IsErr}}

-- what is lacked where a call answers that memory ran out
pub err_lacks : {A E : Type 0} (P : Type 0) (r : Result A E) → IsErr r → P → OnErr r P
err_lacks P (Ok a) is lacks = tt
err_lacks P (Err e) is lacks = lacks
