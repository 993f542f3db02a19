-- What the reader of one JSON value answers.
use Rattle.std.specs.Prelude.{◌≡◌, ◌≢◌, Result, Ok, Err, MatchResult}
use Rattle.net_plan.{specs.declared.error.ValueFault.{ValueFault}, specs.declared.error.ValueFault.TheVariants.{WrongKind, MissingKey, UnknownKey, OutOfRange, UnknownName, BadHex, OverLimit, Doubled, OutOfMemory}, specs.declared.error.PlanError.{PlanError}}
use Rattle.net_plan.specs.declared.error.PlanError.TheVariants as errors

-- what the user is told
abbrev pub error_of : ValueFault → PlanError
error_of WrongKind = errors.WrongKind
error_of MissingKey = errors.MissingKey
error_of UnknownKey = errors.UnknownKey
error_of OutOfRange = errors.OutOfRange
error_of UnknownName = errors.UnknownName
error_of BadHex = errors.BadHex
error_of OverLimit = errors.OverLimit
error_of Doubled = errors.Doubled
error_of OutOfMemory = errors.OutOfMemory

-- the next reading, where this one gave a value
abbrev pub then_with : {A B : Type 0} → Result A ValueFault → (A → Result B ValueFault) → Result B ValueFault
then_with (Ok a) f = f a
then_with (Err e) f = Err e

-- the result is what the JSON value says, seen by `see`, or memory ran out
abbrev pub IsReadOf : {A B : Type 0} → (A → B) → Result B ValueFault → Result A ValueFault → Type 0
IsReadOf see said r = MatchResult r (λ a. said ≡ Ok (see a)) (λ e. e ≢ OutOfMemory → said ≡ Err e)
