use Rattle.std.proofs.Common.{refl, arith, below_more}
use Rattle.net_rules.proofs.OtherSearches.{held_by, not_held_by}
use Rattle.net_rules.proofs.rules.locators.is_held_with_tid.Goals as goal

pub returns-then-is_holder : goal.returns-then-is_holder
returns-then-is_holder c =
    let held = c.is_holder.ensures.0 c.if-is_holder.true in
    (λ _. held_by c.args.plan.now c.loop-node.node c.args.tid c.args.eid.value held.0 held.1, λ _. refl)

pub loop-node-preserved : goal.loop-node-preserved
loop-node-preserved c = below_more _ _ c.loop-node.invariant (λ held. cc (c.is_holder.ensures.1 held, c.if-is_holder.false))

pub returns : goal.returns
returns c =
    (λ h. absurd (cc h), λ held. absurd (not_held_by c.args.plan.now c.loop-node.node c.args.tid c.args.eid.value (omega arith) c.loop-node.invariant held))
