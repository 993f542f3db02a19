use Rattle.net_reached.proofs.Arriving.{reached_if}
use Rattle.net_reached.proofs.reached.reaches.Goals as goal

pub returns : goal.returns
returns c = rw c.is_some.ensures (reached_if c.args.checked.now.0 c.args.from c.args.to c.in_ok-hops_between.field-0 c.in_ok-hops_between.ensures)
