use Rattle.std.{proofs.Common.{◌≡◌, string_bytes, take}, specs.List.{flat_map}}
use Rattle.plan_texts.specs.MoveSteps.{part_text}
use Rattle.plan_texts.proofs.moves.steps.parts_lines.Given as goal

abbrev pub invariant-loop-part : goal.invariant-loop-part
invariant-loop-part l = string_bytes l.lines ≡ flat_map (part_text l.before l.number) (take l.part-index l.parts)
