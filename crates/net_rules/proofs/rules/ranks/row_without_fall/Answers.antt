use Rattle.std.{proofs.Common.{subst}, specs.List.Sorted.{IsPermutation}}
use Rattle.plan_values.specs.declared.plan.Plan.{Plan}
use Rattle.net_tables.specs.Routing.{rows_of}
use Rattle.net_rules.proofs.FallLaws.{fall_everywhere}
use Rattle.net_rules.proofs.rules.ranks.row_without_fall.Goals as goal

pub returns-then-do_all_fall : goal.returns-then-do_all_fall
returns-then-do_all_fall c =
    let ordered = c.rows_in_order.result.now in
    let P : Plan → Type 0 = λ p. IsPermutation (rows_of p c.args.node) ordered in
    fall_everywhere c.args.plan.now c.args.ranks.now c.args.node ordered (subst P c.requires c.rows_in_order.ensures) (c.do_all_fall.ensures c.if-do_all_fall.true)
