use Rattle.std.proofs.Common.{List, Bool, sym, ◌∙◌, ap, subst}
use Rattle.plan_values.specs.declared.plan.Plan.{Plan}
use Rattle.net_tables.specs.Rows.{RowsAreApart, RowsAreInRange}
use Rattle.net_sim.{specs.Routers.{has_switched}, proofs.Tabled.{are_rows_before, none_marked}}
use Rattle.net_sim.proofs.router.Router.new.Goals as goal

pub routing_tables-requires : goal.routing_tables-requires
routing_tables-requires c =
    let tables = c.args.accepted.0 in
    let P : Plan → Type 0 = λ plan. RowsAreApart plan × RowsAreInRange plan in
    let rows = subst P (sym c.plan.ensures.plan) (are_rows_before tables.plan tables.after c.args.accepted.1 c.plan.ensures.accepted) in
    record { apart = rows.0; in_range = rows.1 }

pub returns-clause-unswitched : goal.returns-clause-unswitched
returns-clause-unswitched c = λ n.
    ap (λ (marks : List Bool). has_switched marks n) (c.in_ok-switched.ensures.items_if_clones_equal (λ y same. same)) ∙ none_marked _ n
