use Rattle.std.proofs.Common.{◌≡◌, length, map, arith, rules}
use Rattle.plan_values.specs.NodeValues.{bus_value}
use Rattle.net_rollout.{specs.Steps.{AreNodesAfter, IsTold}, proofs.Made.{made_plan}}
use Rattle.net_rollout.proofs.changed_plan.plan_after.Goals as goal

pub returns : goal.returns
returns c =
    let here = c.args.here.now in
    let new = c.args.new.now in
    let change = c.args.change.now in
    let nodes = c.in-Some.nodes in
    let buses : map bus_value c.in_ok-buses.buses.items ≡ map bus_value here.buses.items = search rules in
    let after : AreNodesAfter here new change (length here.nodes.items) nodes.items = search rules in
    let many : length new.nodes.items ≡ length here.nodes.items = search (rules, arith) in
    let told : IsTold new change = c.is_told.ensures c.if-not-is_told.false in
    made_plan here new change c.in_ok-buses.buses nodes c.of.result buses after many told c.of.ensures.whole
