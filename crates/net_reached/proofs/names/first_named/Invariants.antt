use Rattle.std.proofs.Common.{ℕ, ◌<◌}
use Rattle.net_reached.specs.Reading.{IsNamed}
use Rattle.net_reached.proofs.names.first_named.Given as goal

abbrev pub invariant-loop-index : goal.invariant-loop-index
invariant-loop-index l = (n : ℕ) → n < l.index → ¬ IsNamed l.plan n l.name
