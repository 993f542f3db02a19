use Rattle.std.{proofs.Common.{◌≡◌, ℕ, ◌<◌, Some}, specs.Prelude.{option_map}}
use Rattle.net_tables.{specs.Routing.{Holds}, specs.Repositories.{terminus_of}}
use Rattle.net_rules.proofs.rules.locators.is_held_with_tid.Given as goal

abbrev pub invariant-loop-node : goal.invariant-loop-node
invariant-loop-node l = (n : ℕ) → n < l.node → ¬ (Holds l.plan n l.eid.value × (option_map (λ t. t.tid) (terminus_of l.plan n) ≡ Some l.tid))
