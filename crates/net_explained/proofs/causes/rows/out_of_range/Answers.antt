use Rattle.std.proofs.Common.{refl, sym}
use Rattle.net_tables.{specs.Routing.{rows_of}, specs.Rows.{IsInRange}}
use Rattle.net_explained.proofs.Items.{not_of_item}
use Rattle.net_explained.proofs.causes.rows.out_of_range.Goals as goal

pub returns-in-Some : goal.returns-in-Some
returns-in-Some c =
    let rows = rows_of c.args.plan.now c.args.node in
    let row = c.in-Some.found.now in
    let out : ¬ IsInRange row = λ range. cc (c.is_in_range.ensures.1 range, c.if-not-is_in_range.true) in
    ((refl, (row, sym c.in-Some.ensures, out)), not_of_item rows c.args.row IsInRange row c.in-Some.ensures out)
