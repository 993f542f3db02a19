use Rattle.std.proofs.Common.{◌≡◌, ℕ, ◌<◌}
use Rattle.net_tables.specs.Routing.{OfItem}
use Rattle.net_questions.proofs.lints.buses.has_port_on.Given as goal

abbrev pub invariant-loop-port : goal.invariant-loop-port
invariant-loop-port l = (k : ℕ) → k < l.port-index → OfItem l.ports k (λ b. ¬ (b.bus ≡ l.bus))
