use Rattle.std.proofs.Common.{◌≡◌, take}
use Rattle.audited_captures.proofs.record_faults.first_unlike.Given as goal

abbrev pub invariant-loop-i : goal.invariant-loop-i
invariant-loop-i l = take l.i l.found ≡ take l.i l.planned
