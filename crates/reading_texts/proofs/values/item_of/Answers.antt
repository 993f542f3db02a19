use Rattle.reading_texts.proofs.Items.{item_given}
use Rattle.reading_texts.proofs.values.item_of.Goals as goal

pub returns : goal.returns
returns c = item_given c.args.items.now c.args.index c.get.result c.get.ensures.lookup
