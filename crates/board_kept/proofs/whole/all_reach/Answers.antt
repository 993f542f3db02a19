use Rattle.std.proofs.Common.{rules}
use Rattle.board_kept.{specs.Rowed.{ReachesAll}, proofs.More.{one_more}}
use Rattle.board_kept.proofs.whole.all_reach.Goals as goal

pub loop-from-preserved : goal.loop-from-preserved
loop-from-preserved c = one_more (λ a. ReachesAll c.args.checked.now.0 a) c.loop-from.from c.loop-from.invariant
    (c.in_ok-reaches_all.ensures.0 (search rules))
