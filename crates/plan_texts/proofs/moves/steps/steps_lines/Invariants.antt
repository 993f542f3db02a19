use Rattle.std.proofs.Common.{◌≡◌, string_bytes, take}
use Rattle.plan_texts.specs.MoveSteps.{steps_text}
use Rattle.plan_texts.proofs.moves.steps.steps_lines.Given as goal

abbrev pub invariant-loop-index : goal.invariant-loop-index
invariant-loop-index l = string_bytes l.lines ≡ steps_text l.before 1 (take l.index l.steps)
