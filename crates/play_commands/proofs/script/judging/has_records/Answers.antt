use Rattle.std.proofs.Common.{arith, below_more}
use Rattle.play_commands.proofs.Scripted.{no_records}
use Rattle.play_commands.proofs.script.judging.has_records.Goals as goal

pub returns-then-is_holder : goal.returns-then-is_holder
returns-then-is_holder c =
    let held = c.is_holder.ensures.0 c.if-is_holder.true in
    (c.loop-node.node, held.0, held.1)

pub loop-node-preserved : goal.loop-node-preserved
loop-node-preserved c = below_more _ _ c.loop-node.invariant (λ held. cc (c.is_holder.ensures.1 held, c.if-is_holder.false))

pub returns : goal.returns
returns c = no_records c.args.plan.now c.loop-node.node c.args.eid.value c.args.count (omega arith) c.loop-node.invariant
