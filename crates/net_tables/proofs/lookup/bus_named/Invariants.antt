use Rattle.std.proofs.Common.{ℕ, ◌<◌, ◌≢◌, Some}
use Rattle.net_tables.specs.Names.{name_of_bus}
use Rattle.net_tables.proofs.lookup.bus_named.Given as goal

abbrev pub invariant-loop-index : goal.invariant-loop-index
invariant-loop-index l = (b : ℕ) → b < l.index → name_of_bus l.plan b ≢ Some l.name
