-- What goes on from here goes on from the first digit.
use Rattle.std.proofs.Common.{ℕ, List, length}
use Rattle.plain_json.specs.Plain.{DigitsFollow}
use Rattle.plain_json.proofs.bytes.more_digits.Given as goal

abbrev pub invariant-digits : goal.invariant-digits
invariant-digits l = (n : ℕ) (r : List ℕ) → DigitsFollow l.number l.rest n r → DigitsFollow l.leading l.bytes n r

abbrev pub decreases-digits : goal.decreases-digits
decreases-digits l = length l.rest
