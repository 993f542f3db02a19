use Rattle.std.proofs.Common.{◌∙◌, arith}
use Rattle.net_sim.proofs.Dealt.{none_dealt, one_dealt, all_dealt, dealt_same}
use Rattle.net_sim.proofs.dealing.deal.Goals as goal

pub loop-node-init : goal.loop-node-init
loop-node-init g c = none_dealt _ c.deref-node-items.result.now _ _ c.new-queues.ensures.items

pub loop-node-preserved : goal.loop-node-preserved
loop-node-preserved g c =
    one_dealt _ c.deref-node-items.result.now _ _ c.in_ok-deal_to.field-0 c.loop-node.node-index c.node-item.result _ _ _ c.loop-node-test.true c.node-item.is c.in_ok-push.ensures.items c.in_ok-deal_to.ensures c.loop-node.invariant

pub returns : goal.returns
returns g c =
    all_dealt _ c.deref-node-items.result.now c.loop-node.queues.items c.loop-node.node-index _ _ (omega arith) c.loop-node.invariant
    ∙ dealt_same _ _ _ _ _ c.deref-node-items.ensures.value c.into_iter-left.ensures.rest
