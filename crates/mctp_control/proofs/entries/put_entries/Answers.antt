use Rattle.std.proofs.Common.{arith, length-take, length-drop}
use Rattle.mctp_control.proofs.EntryTaking.{bytes_below}
use Rattle.mctp_control.proofs.entries.put_entries.Goals as goal

pub put-at-requires : goal.put-at-requires
put-at-requires c =
    let b = bytes_below c.args.entries.now c.loop-entry.entry-index c.entry-item.result c.loop-entry-test.true c.entry-item.is in
    let o = c.loop-entry.auto.out in
    simp (length-take, length-drop) (omega (arith, b, o))
