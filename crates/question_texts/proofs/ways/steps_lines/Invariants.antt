use Rattle.std.proofs.Common.{◌≡◌, string_bytes, take}
use Rattle.question_texts.specs.WayLines.{steps_from}
use Rattle.question_texts.proofs.ways.steps_lines.Given as goal

abbrev pub invariant-loop-index : goal.invariant-loop-index
invariant-loop-index l = string_bytes l.lines ≡ steps_from l.plan 1 (take l.index l.steps)
