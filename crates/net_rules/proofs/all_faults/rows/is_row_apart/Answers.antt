use Rattle.std.proofs.Common.{arith}
use Rattle.net_tables.{specs.Routing.{rows_of}, specs.Rows.{IsApartFromEarlier}}
use Rattle.net_rules.proofs.EntryLaws.{of_read}
use Rattle.net_rules.proofs.all_faults.rows.is_row_apart.Goals as goal

pub returns-else-row-rows : goal.returns-else-row-rows
unfolding IsApartFromEarlier
returns-else-row-rows c =
    let read = of_read c.rows_at-rows.result.now (rows_of c.args.plan.now c.args.node) c.args.row c.index-rows-row.result (λ rows row. IsApartFromEarlier rows c.args.row row)
    c.rows_at-rows.ensures (omega arith) c.index-rows-row.is in
    (λ yes. read.0 (c.is_apart_from_all.ensures.0 yes), λ of. c.is_apart_from_all.ensures.1 (read.1 of))
