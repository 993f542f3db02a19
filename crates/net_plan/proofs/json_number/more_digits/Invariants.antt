-- What was gone over are digits, and the number goes on with the rest.
use Rattle.std.{proofs.Common.{◌≡◌, ◌-◌, ◌≤◌, length, drop}, specs.Str.Parse.{AllDigits, digits_value_after, digits_value}}
use Rattle.net_plan.proofs.json_number.more_digits.Given as goal

abbrev pub invariant-digits : goal.invariant-digits
invariant-digits l = (l.at ≤ length l.bytes) × (AllDigits 10 (drop l.at l.bytes) → AllDigits 10 l.bytes)
    × (digits_value_after 10 l.number (drop l.at l.bytes) ≡ digits_value 10 l.bytes)

abbrev pub decreases-digits : goal.decreases-digits
decreases-digits l = length l.bytes - l.at
