-- A walk of the program over a terminus, one exchange after another.
use Rattle.std.specs.Prelude.{◌≡◌, ◌≢◌, ◌⊎◌, ◌+◌, ◌<◌, ℕ, List, length, Result, MatchResult}
use Rattle.pdr_repository.{specs.declared.walk_fault.Step.{Step as WalkStep}, specs.declared.walk_fault.Step.TheVariants.{Done}, specs.Records.{Entry, bytes_by_place}, specs.Walks.{Exchange, Walk, IsFinished, exchanges}, specs.Walkers.{WalkState, HasTakenIn}}
use Rattle.command_answers.{specs.declared.refused.Refused.{Refused}, specs.declared.refused.Refused.TheVariants.{TooMuch, NoMemory}}
use Rattle.plan_commands.specs.Walking.{bytes_of, most_bytes}

-- The walker stands for these exchanges, which are a walk. It has taken an answer for each, and it has the program's
-- limits.
pub record IsUnderWay (records : List Entry) (count : ℕ) (w : WalkState) (xs : List Exchange) : Type 0 where
  pub walk : Walk records count xs
  pub stands : HasTakenIn w xs
  pub same_count : w.count ≡ count
  pub max_records : w.max_records ≡ 4096
  pub max_bytes : w.max_bytes ≡ most_bytes
  pub taken : w.taken ≡ length xs

-- The walk is finished, or it is one exchange further.
pub record IsFurther (records : List Entry) (count : ℕ) (xs : List Exchange) (step : WalkStep)
    (new : WalkState) : Type 0 where
  pub exchanges : List Exchange
  pub under_way : IsUnderWay records count new exchanges
  pub done : step ≡ Done → IsFinished count exchanges
  pub further : step ≢ Done → length exchanges ≡ length xs + 1

-- why a walk ends before its last record: memory ran out, or the records have more bytes than a walk collects
abbrev pub EndsEarlyFor : List Entry → Refused → Type 0
EndsEarlyFor records refused = (refused ≡ NoMemory) ⊎ ((refused ≡ TooMuch) × (most_bytes < bytes_of records))

-- what an exchange leads to, of each walk that is under way
abbrev pub Goes : List Entry → WalkState → Result WalkStep Refused → WalkState → Type 0
Goes records old result new =
    (count : ℕ) (xs : List Exchange) → IsUnderWay records count old xs
    → MatchResult result (λ step. IsFurther records count xs step new) (EndsEarlyFor records)

-- the walker has collected all records by place, by as many requests as they have parts
abbrev pub HasCollected : List Entry → ℕ → WalkState → Type 0
HasCollected records count w = (w.records ≡ bytes_by_place records) × (w.taken ≡ exchanges count records)
