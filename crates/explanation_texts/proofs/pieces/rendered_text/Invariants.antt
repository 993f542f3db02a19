-- The pieces before this one are rendered.
use Rattle.std.proofs.Common.{◌≡◌, take, string_bytes}
use Rattle.explanation_texts.specs.Pieces.{rendered}
use Rattle.explanation_texts.proofs.pieces.rendered_text.Given as goal

abbrev pub invariant-loop-piece : goal.invariant-loop-piece
invariant-loop-piece l = string_bytes l.text ≡ rendered l.plan (take l.piece-index l.pieces)
