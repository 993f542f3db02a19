use Rattle.std.proofs.Common.{arith}
use Rattle.net_pointers.proofs.Links.{member_on, no_member_left, key_passed}
use Rattle.net_pointers.proofs.tape.after_members.Goals as goal

pub loop-preserved : goal.loop-preserved
loop-preserved c = (omega arith, λ ts e. member_on c.args.count c.loop.counter _ ts _ _ c.loop-test.true (c.loop.invariant.1 ts e) (λ xs. key_passed _ _ xs c.next.ensures) c.after_value-at.ensures)

pub returns : goal.returns
returns c = λ ts e. no_member_left _ _ ts (omega arith) (c.loop.invariant.1 ts e)
