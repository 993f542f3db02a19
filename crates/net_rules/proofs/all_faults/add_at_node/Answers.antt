use Rattle.std.proofs.Common.{[], ◌∷◌, ◌+◌, arith}
use Rattle.net_rules.{specs.Faults.{order_of}, proofs.FaultRuns.{passed, met_at}}
use Rattle.net_rules.proofs.all_faults.add_at_node.Goals as goal

pub returns-then-is_met : goal.returns-then-is_met
returns-then-is_met c =
    let judge = c.args.judge.now in
    let rule = c.args.rule in
    let n = c.args.node in
    passed judge.plan.now judge.ranks (order_of rule ∷ []) n (n + 1) c.args.runs.now.items (omega arith)
    (λ site within. met_at judge.plan.now judge.ranks rule n site within.0 (omega (arith, within.1.0, within.1.1)) (c.in_ok-is_met.ensures c.if-is_met.true site.entry site.eid))
    c.requires.before
