use Rattle.std.proofs.Common.{ℕ, ◌<◌, ◌⊎◌}
use Rattle.net_tables.{specs.Routing.{Holds, Covers}, specs.Ownership.{IsInPoolOf}}
use Rattle.net_questions.proofs.lints.rows.leads_to_nobody.Given as goal

abbrev pub invariant-loop-node : goal.invariant-loop-node
invariant-loop-node l = (m : ℕ) → m < l.node → ¬ ((e : ℕ) × Covers l.row e × (Holds l.plan m e ⊎ IsInPoolOf l.plan m e))
