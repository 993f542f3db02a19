use Rattle.std.proofs.Common.{[], ◌∷◌, arith}
use Rattle.net_rules.{specs.Faults.{order_of}, proofs.FaultRuns.{entered, left, beyond_nodes}}
use Rattle.net_rules.proofs.all_faults.add_of_rule.Goals as goal

pub loop-node-init : goal.loop-node-init
loop-node-init c = let judge = c.args.judge.now in entered judge.plan.now judge.ranks (order_of c.args.rule ∷ []) c.args.runs.now.items c.requires

pub loop-node-preserved : goal.loop-node-preserved
loop-node-preserved c = c.in_ok-add_at_node.ensures

pub returns : goal.returns
returns c =
    let judge = c.args.judge.now in
    left judge.plan.now judge.ranks [] (order_of c.args.rule) c.loop-node.node c.loop-node.runs.items
    (λ site past. beyond_nodes judge.plan.now judge.ranks site (omega (arith, past.1))) c.loop-node.invariant
