use Rattle.std.proofs.Common.{ℕ, ◌<◌}
use Rattle.pdr_record.specs.NumericValues.{numeric_value}
use Rattle.net_questions.specs.Sensors.{AreCrossed}
use Rattle.net_questions.proofs.lints.thresholds.crosses_later.Given as goal

abbrev pub invariant-loop-higher : goal.invariant-loop-higher
invariant-loop-higher l = (j : ℕ) → j < l.higher → ¬ ((l.lower < j) × AreCrossed (numeric_value l.sensor) l.lower j)
