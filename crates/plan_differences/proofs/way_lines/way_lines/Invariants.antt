use Rattle.std.{proofs.Common.{◌≡◌, string_bytes, take}, specs.List.{flat_map}}
use Rattle.plan_differences.specs.WayLines.{way_text}
use Rattle.plan_differences.proofs.way_lines.way_lines.Given as goal

abbrev pub invariant-loop-way : goal.invariant-loop-way
invariant-loop-way l = string_bytes l.lines ≡ flat_map (way_text l.before) (take l.way-index l.ways)
