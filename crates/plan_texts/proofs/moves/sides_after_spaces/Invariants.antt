use Rattle.std.proofs.Common.{◌≡◌, string_bytes, take}
use Rattle.plan_texts.specs.MoveLines.{sides_text}
use Rattle.plan_texts.proofs.moves.sides_after_spaces.Given as goal

abbrev pub invariant-loop-side : goal.invariant-loop-side
invariant-loop-side l = string_bytes l.words ≡ sides_text (take l.side-index l.sides)
