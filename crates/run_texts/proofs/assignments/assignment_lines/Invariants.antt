use Rattle.std.proofs.Common.{◌≡◌, map, string_bytes, take}
use Rattle.net_sim.specs.Assignments.{assignment_value}
use Rattle.run_texts.specs.AssignmentLines.{assignment_lines}
use Rattle.run_texts.proofs.assignments.assignment_lines.Given as goal

abbrev pub invariant-loop-assignment : goal.invariant-loop-assignment
invariant-loop-assignment l = string_bytes l.lines ≡ assignment_lines l.plan (map assignment_value (take l.assignment-index l.list))
