use Rattle.std.proofs.Common.{ℕ, ◌<◌}
use Rattle.net_tables.specs.Routing.{OfItem}
use Rattle.emulated_node.specs.Ways.{IsPortAt}
use Rattle.emulated_node.proofs.way.is_at.Given as goal

abbrev pub invariant-loop-port : goal.invariant-loop-port
invariant-loop-port l = (k : ℕ) → k < l.port-index → OfItem l.ports k (λ port. ¬ IsPortAt port l.bus l.address)
