use Rattle.mctp_control.proofs.EntryReading.{HasRead}
use Rattle.mctp_control.proofs.entries.Entries.read.Given as goal

abbrev pub invariant-loop-entry : goal.invariant-loop-entry
invariant-loop-entry l = HasRead l.fn.bytes l.count l._entry l.items.items l.rest
