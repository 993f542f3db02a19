use Rattle.std.proofs.Common.{ℕ, arith, below_more}
use Rattle.net_tables.specs.Routing.{Covers}
use Rattle.net_explained.specs.Rows.{CoversAt}
use Rattle.net_explained.proofs.causes.rows.first_overlapping.Goals as goal

pub loop-earlier-preserved : goal.loop-earlier-preserved
loop-earlier-preserved c =
    let none = below_more (λ k. (e : ℕ) → ¬ (CoversAt c.args.plan.now c.args.node k e × Covers c.args.row.now e)) c.loop-earlier.earlier
    (λ k less e. c.loop-earlier.invariant k e less) c.in_default.ensures in
    λ k e less. none k less e

pub returns : goal.returns
returns c = λ k e less. c.loop-earlier.invariant k e (omega arith)
