use Rattle.net_pointers.proofs.Paths.{item_given}
use Rattle.net_pointers.proofs.path.item_at.Goals as goal

pub returns : goal.returns
returns c = item_given c.args.items.now c.args.index c.get.result c.get.ensures.lookup
