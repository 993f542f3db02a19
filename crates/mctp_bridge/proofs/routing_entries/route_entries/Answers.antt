use Rattle.std.proofs.Common.{◌++◌, length, sym, ap, ◌∙◌}
use Rattle.mctp_bridge.{specs.Entries.{row_entries, table_entries}, proofs.EntryRows.{entries_more, entries_all}}
use Rattle.mctp_bridge.proofs.routing_entries.route_entries.Goals as goal

pub loop-index-preserved : goal.loop-index-preserved
loop-index-preserved c =
    let rows = c.rows-row-items.result.now in
    let row = c.row-item.result in
    let next = c.index-neighbors-index.result in
    let same = c.requires.one_each ∙ ap length (sym c.rows-row-items.ensures.rows) in
    let more = entries_more rows c.args.neighbors.now c.loop-index.index row next same c.loop-index-test.true c.row-item.is c.index-neighbors-index.is in
    c.in_ok-push_entries.ensures ∙ ap (λ es. es ++ row_entries row next) c.loop-index.invariant ∙ sym more

pub returns : goal.returns
returns c =
    let rows = c.rows-row-items.result.now in
    let same = c.requires.one_each ∙ ap length (sym c.rows-row-items.ensures.rows) in
    c.loop-index.invariant ∙ entries_all rows c.args.neighbors.now c.loop-index.index same c.loop-index-test.false
    ∙ ap (λ rows. table_entries rows c.args.neighbors.now) c.rows-row-items.ensures.rows
