use Rattle.std.{proofs.Common.{arith}, proofs.lemmas.Grind.{common_steps}}
use Rattle.toml.specs.View.{view}
use Rattle.board_values.proofs.Sharing.{one_taken_more}
use Rattle.board_values.proofs.shares.taken_of.Goals as goal

pub loop-node-preserved : goal.loop-node-preserved
loop-node-preserved c = one_taken_more (view c.args.board.now) c.args.owner c.loop-node.node c.loop-node.total c.in_ok-share_of.field-0
    c.saturating_add-total.result c.loop-node.invariant c.in_ok-share_of.ensures (grind (arith, common_steps, c.saturating_add-total.ensures))
