-- What a source has given when reading it ended early.
use Rattle.std.{specs.Prelude.{◌≡◌, ◌⊎◌, ℕ, ◌≤◌, List, length, Option}, specs.Io.KnownBytes.{Consumes}}
use Rattle.net_plan.{specs.declared.error.PlanError.{PlanError}, specs.declared.error.PlanError.TheVariants.{Device, OutOfMemory}, specs.Limits.{most_text_bytes}}

-- some bytes, at most so many, were taken, and all others are left
abbrev pub TakesAtMost : ℕ → Option (List ℕ) → Option (List ℕ) → Type 0
TakesAtMost limit old new = (bs : List ℕ) × Consumes old new bs × (length bs ≤ limit)

-- Where the source failed or memory was wanting, it stands where its last pull left it: it has given no more
-- than a text may have, and all others of its bytes are left.
abbrev pub StandsBehindPulls : Option (List ℕ) → Option (List ℕ) → PlanError → Type 0
StandsBehindPulls old new e = (e ≡ Device) ⊎ (e ≡ OutOfMemory) → TakesAtMost most_text_bytes old new
