use Rattle.std.proofs.Common.{◌≡◌, ℕ, ◌<◌}
use Rattle.net_tables.specs.Routing.{Holds}
use Rattle.net_rules.proofs.rules.held_eids.is_held_by_another.Given as goal

abbrev pub invariant-loop-holder : goal.invariant-loop-holder
invariant-loop-holder l = (k : ℕ) → k < l.holder → Holds l.plan k l.eid.value → k ≡ l.node
