use Rattle.std.proofs.Common.{ℕ, subst}
use Rattle.plan_values.specs.declared.plan.Plan.{Plan}
use Rattle.net_tables.specs.TwoPlans.{one_plan}
use Rattle.net_rules.{specs.HeldEids.{IsLedOn}, specs.Rules.{AtRowEid}, specs.Search.{IsFirstSpot}}
use Rattle.net_rules.proofs.plan_fault.first_of_plan_at.Goals as goal

pub returns-in-C12 : goal.returns-in-C12
returns-in-C12 c = rw c.in-C12.is c.unlawful_handle.ensures

pub returns-in-C11 : goal.returns-in-C11
returns-in-C11 c =
    let n = c.args.node in
    let P : Plan → Type 0 = λ p. IsFirstSpot (AtRowEid c.args.plan.now n (λ row e. IsLedOn (one_plan p) n e row.next)) c.row_without_way_on.result in
    rw c.in-C11.is (subst P c.requires.index c.row_without_way_on.ensures)
