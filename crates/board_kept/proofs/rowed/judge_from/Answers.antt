use Rattle.net_reached.specs.Wishes.{ReachesNode}
use Rattle.board_kept.proofs.More.{one_more}
use Rattle.board_kept.proofs.rowed.judge_from.Goals as goal

pub loop-to-preserved : goal.loop-to-preserved
loop-to-preserved c = one_more (λ b. ReachesNode c.args.checked.now.0 c.args.from b) c.loop-to.to c.loop-to.invariant c.in_ok-judge_pair.ensures
