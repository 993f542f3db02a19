use Rattle.std.proofs.Common.{◌<◌, length, arith, rules}
use Rattle.plan_differences.proofs.PortFacts.{pushed_port}
use Rattle.plan_differences.proofs.facts.facts_of_ports.Goals as goal

pub loop-index-preserved : goal.loop-index-preserved
loop-index-preserved c =
    let within : c.loop-index.index < length c.args.ports.now = omega arith in
    pushed_port c.args.plan.now c.args.node.now c.args.ports.now c.loop-index.index c.index-ports-index.result c.loop-index.facts.items _ c.fact_of_port.result
    within c.index-ports-index.is (search rules) c.fact_of_port.ensures c.loop-index.invariant
