use Rattle.std.proofs.Common.{ℕ, ◌<◌}
use Rattle.net_rules.specs.Circles.{MovesBy, IsOnCircle}
use Rattle.net_rules.proofs.certifying.walks.first_on_circle.Given as goal

abbrev pub invariant-loop-index : goal.invariant-loop-index
invariant-loop-index l = (n : ℕ) → n < l.index → ¬ IsOnCircle (MovesBy l.table) n
