use Rattle.std.proofs.Common.{ℕ, ◌<◌}
use Rattle.net_tables.specs.Routing.{HasRow}
use Rattle.net_questions.proofs.lints.rows.nobody_has_row.Given as goal

abbrev pub invariant-loop-node : goal.invariant-loop-node
invariant-loop-node l = (m : ℕ) → m < l.node → ¬ HasRow l.plan m l.eid.value
