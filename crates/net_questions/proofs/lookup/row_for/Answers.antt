use Rattle.std.proofs.Common.{arith}
use Rattle.plan_values.specs.declared.nodes.Row.{Row}
use Rattle.net_tables.{specs.Routing.{Covers}, proofs.RowSearches.{of_one_more, of_all_items, no_row_for}}
use Rattle.net_questions.proofs.FirstRows.{first_row}
use Rattle.net_questions.proofs.lookup.row_for.Goals as goal

pub returns-then-covers : goal.returns-then-covers
returns-then-covers c =
    first_row c.args.plan.now c.args.node c.args.eid.value c.loop-row.row-index c.row-item.result c.rows_at-rows.result.now c.rows_at-rows.ensures (omega arith) c.row-item.is
    (c.covers.ensures.0 c.if-covers.true) c.loop-row.invariant

pub loop-row-preserved : goal.loop-row-preserved
loop-row-preserved c =
    of_one_more c.rows_at-rows.result.now c.loop-row.row-index c.row-item.result (λ (row : Row). ¬ Covers row c.args.eid.value) (omega arith) c.row-item.is
    (λ covers. cc (c.covers.ensures.1 covers, c.if-covers.false)) c.loop-row.invariant

pub returns : goal.returns
returns c =
    let rows = c.rows_at-rows.result.now in
    no_row_for c.args.plan.now c.args.node c.args.eid.value rows c.rows_at-rows.ensures
    (of_all_items rows c.loop-row.row-index (λ (row : Row). ¬ Covers row c.args.eid.value) (omega arith) c.loop-row.invariant)
