use Rattle.std.{proofs.Common.{◌≡◌, drop, map}, specs.List.{list_any}}
use Rattle.audited_captures.{specs.Readings.{part_value, readings}, specs.Untold.{is_read}}
use Rattle.audited_captures.proofs.untold.some_is_read.Given as goal

abbrev pub invariant-loop-i : goal.invariant-loop-i
invariant-loop-i l = list_any is_read (readings (map part_value l.parts)) ≡ list_any is_read (readings (map part_value (drop l.i l.parts)))
