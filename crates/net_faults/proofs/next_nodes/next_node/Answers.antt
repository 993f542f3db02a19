use Rattle.std.{proofs.Common.{arith, refl, Some}, proofs.lemmas.Option.{slice_get_read}}
use Rattle.plan_values.specs.declared.nodes.Row.{Row}
use Rattle.net_tables.{specs.Routing.{Covers}, proofs.RowSearches.{of_one_more, of_all_items}}
use Rattle.net_faults.proofs.NextLaws.{goes_by, goes_nowhere, held_goes_nowhere}
use Rattle.net_faults.proofs.next_nodes.next_node.Goals as goal

pub returns-then-holds : goal.returns-then-holds
returns-then-holds c = held_goes_nowhere c.args.plan.now c.args.eid.value c.args.node (c.holds.ensures.0 c.if-holds.true)

pub returns-then-covers : goal.returns-then-covers
returns-then-covers c =
    let row = c.row-item.result in
    let rows = c.rows_at-rows.result.now in
    goes_by c.args.plan.now c.args.eid.value c.args.node rows c.loop-row.row-index row c.rows_at-rows.ensures (λ held. cc (c.holds.ensures.1 held, c.if-holds.false))
    (slice_get_read rows _ c.loop-row.row-index row refl (omega arith) c.row-item.is) (c.covers.ensures.0 c.if-covers.true) c.loop-row.invariant

pub loop-row-preserved : goal.loop-row-preserved
loop-row-preserved c =
    of_one_more c.rows_at-rows.result.now c.loop-row.row-index c.row-item.result (λ (row : Row). ¬ Covers row c.args.eid.value) (omega arith) c.row-item.is
    (λ covers. cc (c.covers.ensures.1 covers, c.if-covers.false)) c.loop-row.invariant

pub returns : goal.returns
returns c =
    let rows = c.rows_at-rows.result.now in
    goes_nowhere c.args.plan.now c.args.eid.value c.args.node rows c.rows_at-rows.ensures (of_all_items rows c.loop-row.row-index (λ (row : Row). ¬ Covers row c.args.eid.value) (omega arith) c.loop-row.invariant)
