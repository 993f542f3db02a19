use Rattle.net_pointers.proofs.Ordered.{told}
use Rattle.net_pointers.proofs.order.trouble_of.Goals as goal

pub returns : goal.returns
returns c = told _ _ _ c.first_trouble.result c.requires c.first_trouble.ensures
