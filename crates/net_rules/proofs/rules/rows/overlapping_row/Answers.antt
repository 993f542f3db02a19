use Rattle.std.proofs.Common.{subst}
use Rattle.plan_values.specs.declared.plan.Plan.{Plan}
use Rattle.net_tables.{specs.Routing.{rows_of}, specs.Rows.{IsApartFromEarlier}}
use Rattle.net_rules.{specs.Spans.{PairsApart}, proofs.Spots.{items_meet}, proofs.PairsMoved.{apart_from_earlier}}
use Rattle.net_rules.proofs.rules.rows.overlapping_row.Goals as goal

pub returns-then-are_rows_apart : goal.returns-then-are_rows_apart
returns-then-are_rows_apart c =
    let rows = rows_of c.args.plan.now c.args.node in
    let P : Plan → Type 0 = λ p. PairsApart (rows_of p c.args.node) in
    items_meet rows (IsApartFromEarlier rows) (apart_from_earlier rows (subst P c.requires (c.are_rows_apart.ensures c.if-are_rows_apart.true)))
