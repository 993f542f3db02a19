use Rattle.std.{proofs.Common.{◌≡◌, string_bytes, take}, specs.List.{flat_map}}
use Rattle.plan_differences.specs.DifferenceLines.{difference_text}
use Rattle.plan_differences.proofs.lines.difference_lines.Given as goal

abbrev pub invariant-loop-difference : goal.invariant-loop-difference
invariant-loop-difference l = string_bytes l.lines ≡ flat_map difference_text (take l.difference-index l.differences)
