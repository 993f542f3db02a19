use Rattle.std.proofs.Common.{ℕ, ◌<◌}
use Rattle.net_tables.specs.Routing.{Covers}
use Rattle.net_explained.specs.Rows.{CoversAt}
use Rattle.net_explained.proofs.causes.rows.first_overlapping.Given as goal

abbrev pub invariant-loop-earlier : goal.invariant-loop-earlier
invariant-loop-earlier l = (k e : ℕ) → k < l.earlier → ¬ (CoversAt l.plan l.node k e × Covers l.row e)
