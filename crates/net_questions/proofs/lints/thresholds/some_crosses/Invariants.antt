use Rattle.std.proofs.Common.{ℕ, ◌<◌}
use Rattle.pdr_record.specs.NumericValues.{numeric_value}
use Rattle.net_questions.specs.Sensors.{CrossesLater}
use Rattle.net_questions.proofs.lints.thresholds.some_crosses.Given as goal

abbrev pub invariant-loop-lower : goal.invariant-loop-lower
invariant-loop-lower l = (i : ℕ) → i < l.lower → ¬ CrossesLater (numeric_value l.sensor) i
