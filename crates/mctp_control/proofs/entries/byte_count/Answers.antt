use Rattle.std.proofs.Common.{arith}
use Rattle.mctp_control.proofs.EntryTaking.{bytes_below}
use Rattle.mctp_control.proofs.entries.byte_count.Goals as goal

pub overflow_add-count : goal.overflow_add-count
overflow_add-count c =
    let b = bytes_below c.args.entries.now c.loop-entry.entry-index c.entry-item.result c.loop-entry-test.true c.entry-item.is in
    omega (arith, b)
