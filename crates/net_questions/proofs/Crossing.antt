-- The indices of thresholds.
use Rattle.std.proofs.Common.{◌≡◌, ℕ, zero, suc, ◌<◌, List, Some, arith}
use Rattle.pdr_record.specs.Layouts.{NumericValue}
use Rattle.net_questions.specs.Sensors.{threshold_of}

pub within : (s : NumericValue) (k : ℕ) (value : List ℕ) → threshold_of s k ≡ Some value → k < 6
within s zero value is = omega arith
within s (suc zero) value is = omega arith
within s (suc (suc zero)) value is = omega arith
within s (suc (suc (suc zero))) value is = omega arith
within s (suc (suc (suc (suc zero)))) value is = omega arith
within s (suc (suc (suc (suc (suc zero))))) value is = omega arith
within s (suc (suc (suc (suc (suc (suc k)))))) value is = absurd (cc is)
