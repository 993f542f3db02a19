use Rattle.net_reached.proofs.Missed.{one_more}
use Rattle.net_reached.proofs.unmet.unmet_wishes.Goals as goal

pub loop-wish-preserved : goal.loop-wish-preserved
loop-wish-preserved c =
    one_more c.args.checked.now.0 c.args.wishes.now _ _ c.loop-wish.wish-index _ c.loop-wish-test.true c.loop-wish.invariant c.in_ok-add_if_unmet.ensures
