use Rattle.std.proofs.Common.{length, arith, below_more}
use Rattle.net_questions.{specs.Lint.{HasAddressOn}, proofs.Exists.{found, not_found}, proofs.Within.{port_within}}
use Rattle.net_questions.proofs.lints.ports.has_addresses.Goals as goal

pub returns-then-has_address_on : goal.returns-then-has_address_on
returns-then-has_address_on c = found (λ m. HasAddressOn c.args.plan.now c.args.bus m) c.loop-node.node (c.has_address_on.ensures.0 c.if-has_address_on.true)

pub loop-node-preserved : goal.loop-node-preserved
loop-node-preserved c = below_more _ _ c.loop-node.invariant (λ has. cc (c.has_address_on.ensures.1 has, c.if-has_address_on.false))

pub returns : goal.returns
returns c =
    not_found (λ m. HasAddressOn c.args.plan.now c.args.bus m) (length c.args.plan.now.nodes.items) c.loop-node.node (omega arith) (λ m has. port_within c.args.plan.now m has.0 has.1 has.2)
    c.loop-node.invariant
