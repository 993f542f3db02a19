use Rattle.std.proofs.Common.{take, All}
use Rattle.mctp_routing.specs.Rows.{AreApart}
use Rattle.mctp_routing.proofs.row_faults.first_overlap.Given as goal

abbrev pub invariant-loop-index : goal.invariant-loop-index
invariant-loop-index l = All (AreApart l.row) (take l.index l.rows)
