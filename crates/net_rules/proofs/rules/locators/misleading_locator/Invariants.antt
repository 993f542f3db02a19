use Rattle.std.proofs.Common.{ℕ, ◌<◌}
use Rattle.net_tables.specs.Routing.{OfItem}
use Rattle.net_rules.specs.Locators.{HasOneByteAsEid, LocatesTerminus}
use Rattle.net_rules.proofs.rules.locators.misleading_locator.Given as goal

abbrev pub invariant-loop-j : goal.invariant-loop-j
invariant-loop-j l = (k : ℕ) → k < l.j → OfItem l.records k (λ r. HasOneByteAsEid r × ((e : ℕ) → LocatesTerminus l.plan r e))
