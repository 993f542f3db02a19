use Rattle.std.proofs.Common.{ℕ, ◌<◌}
use Rattle.net_tables.specs.Routing.{OfItem, Covers}
use Rattle.net_rules.{specs.PlanTables.{plans_value}, specs.HeldEids.{IsLedOn}}
use Rattle.net_rules.proofs.rules.held_eids.row_without_way_on.Given as goal

abbrev pub invariant-loop-r : goal.invariant-loop-r
invariant-loop-r l = (k : ℕ) → k < l.r → OfItem l.rows k (λ row. (e : ℕ) → Covers row e → IsLedOn (plans_value l.plans) l.node e row.next)
