use Rattle.std.proofs.Common.{ℕ, ◌<◌}
use Rattle.net_rules.specs.Circles.{MovesBy}
use Rattle.net_faults.specs.Circles.{IsNotLeast}
use Rattle.net_faults.proofs.circles.first_on_circle.Given as goal

abbrev pub invariant-loop-index : goal.invariant-loop-index
invariant-loop-index l = (n : ℕ) → n < l.index → IsNotLeast (MovesBy l.table) n
