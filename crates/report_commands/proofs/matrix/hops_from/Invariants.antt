use Rattle.std.proofs.Common.{◌≡◌, ℕ, length}
use Rattle.net_tables.specs.Routing.{OfItem}
use Rattle.report_commands.specs.Reporting.{AreHopsTo}
use Rattle.report_commands.proofs.matrix.hops_from.Given as goal

abbrev pub invariant-loop-to : goal.invariant-loop-to
invariant-loop-to l = (length l.hops.items ≡ l.to) × ((b : ℕ) → OfItem l.hops.items b (AreHopsTo l.checked.0 l.from b))
