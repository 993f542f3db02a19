use Rattle.std.proofs.Common.{string_bytes, take}
use Rattle.fault_texts.specs.FaultListLines.{AreFaultLines}
use Rattle.fault_texts.proofs.fault_lists.lines_over.Given as goal

abbrev pub invariant-loop-fault : goal.invariant-loop-fault
invariant-loop-fault l = AreFaultLines l.plan l.name l.index (take l.fault-index l.faults) (string_bytes l.lines)
