use Rattle.std.proofs.Common.{arith}
use Rattle.net_pointers.proofs.Links.{item_on, none_left}
use Rattle.net_pointers.proofs.tape.after_items.Goals as goal

pub loop-preserved : goal.loop-preserved
loop-preserved c = (omega arith, λ ts e. item_on c.args.count c.loop.counter _ ts _ c.loop-test.true (c.loop.invariant.1 ts e) c.after_value-at.ensures)

pub returns : goal.returns
returns c = λ ts e. none_left _ _ ts (omega arith) (c.loop.invariant.1 ts e)
