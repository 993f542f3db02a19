use Rattle.std.proofs.Common.{◌≡◌, map, take}
use Rattle.audited_captures.{specs.Failures.{failures_in}, specs.Readings.{part_value}}
use Rattle.audited_captures.proofs.failures.failures_in.Given as goal

abbrev pub invariant-loop-part : goal.invariant-loop-part
invariant-loop-part l = l.failures.items ≡ failures_in (map part_value (take l.part-index l.parts))
