use Rattle.std.{proofs.Common.{◌≡◌, ◌<◌, length, Some, refl, sym, subst}, specs.Prelude.{slice_get}, proofs.lemmas.Option.{slice_get_read}}
use Rattle.plan_values.specs.declared.plan.Plan.{Plan}
use Rattle.net_sim.{specs.Flights.{flight_value}, specs.Routers.{has_switched, rows_in_force}, proofs.Deciding.{decided_by, goes_on}}
use Rattle.net_sim.proofs.router.Router.decide.Goals as goal

pub returns-clause-decided : goal.returns-clause-decided
returns-clause-decided c =
    let now = c.args.self.now in
    let plan : Plan = now.tables.plan in
    let f = flight_value c.args.flight.now in
    let node = c.index-node.result.now in
    let same : c.plan.result.now ≡ plan = c.plan.ensures.plan in
    let within : f.node < length c.plan.result.now.nodes.items = subst (λ (p : Plan). f.node < length p.nodes.items) (sym same) c.requires in
    let there : slice_get c.plan.result.now.nodes.items f.node ≡ Some node = slice_get_read _ _ _ node refl within c.index-node.ensures in
    let here : slice_get plan.nodes.items f.node ≡ Some node = subst (λ (p : Plan). slice_get p.nodes.items f.node ≡ Some node) same there in
    decided_by plan (rows_in_force now f.node) f node c.table_in_force.result.now c.device_kind.result c.at_origin.result c.decide.result
    c.table_in_force.ensures here c.device_kind.ensures c.at_origin.ensures c.decide.ensures

pub returns-clause-goes_on : goal.returns-clause-goes_on
returns-clause-goes_on c =
    let now = c.args.self.now in
    let f = flight_value c.args.flight.now in
    goes_on now.tables now.certificate c.plan.ensures.accepted (has_switched now.switched f.node) f c.decide.result (returns-clause-decided c)
