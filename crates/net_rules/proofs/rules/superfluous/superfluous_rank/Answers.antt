use Rattle.std.proofs.Common.{List, None, subst}
use Rattle.plan_values.specs.declared.certificate.RankRange.{RankRange}
use Rattle.net_tables.specs.Routing.{eid_number}
use Rattle.net_rules.{specs.PlanTables.{plans_value}, specs.Stretches.{IsLeastFailure}, specs.Superfluous.{NeedsRankBy}, proofs.RowsInForce.{first_of_all_eids}}
use Rattle.net_rules.proofs.rules.superfluous.superfluous_rank.Goals as goal

pub returns-then-needs_all : goal.returns-then-needs_all
returns-then-needs_all c =
    first_of_all_eids (plans_value c.args.plans.now) c.args.certificate.now c.args.node c.ranges_at-ranges.result.now None c.requires c.ranges_at-ranges.ensures
    (λ e from less. c.needs_all.ensures c.if-needs_all.true e)

pub returns : goal.returns
returns c =
    let N : List RankRange → Type 0 = λ rs. IsLeastFailure (NeedsRankBy (plans_value c.args.plans.now) c.args.node rs) 0 256 (eid_number c.first_broken.result) in
    first_of_all_eids (plans_value c.args.plans.now) c.args.certificate.now c.args.node c.ranges_at-ranges.result.now c.first_broken.result c.requires c.ranges_at-ranges.ensures
    (subst N c.of-ranks.ensures c.first_broken.ensures)
