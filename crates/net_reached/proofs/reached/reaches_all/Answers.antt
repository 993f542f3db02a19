use Rattle.std.proofs.Common.{rules}
use Rattle.net_reached.proofs.Arriving.{one_reached}
use Rattle.net_reached.proofs.reached.reaches_all.Goals as goal

pub loop-to-preserved : goal.loop-to-preserved
loop-to-preserved c = one_reached c.args.checked.now.0 c.args.from c.loop-to.to c.loop-to.invariant (search rules)
