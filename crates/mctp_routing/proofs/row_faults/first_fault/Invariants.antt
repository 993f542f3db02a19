use Rattle.std.proofs.Common.{take}
use Rattle.mctp_routing.specs.Rows.{AreLawful}
use Rattle.mctp_routing.proofs.row_faults.first_fault.Given as goal

abbrev pub invariant-loop-index : goal.invariant-loop-index
invariant-loop-index l = AreLawful (take l.index l.rows)
