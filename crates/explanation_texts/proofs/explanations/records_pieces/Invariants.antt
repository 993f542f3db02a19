use Rattle.std.{proofs.Common.{◌≡◌, take}, specs.List.{flat_map}}
use Rattle.explanation_texts.{specs.Explanations.{record_subjects}, specs.Pieces.{entry_at, subjects}}
use Rattle.explanation_texts.proofs.explanations.records_pieces.Given as goal

abbrev pub invariant-loop-index : goal.invariant-loop-index
invariant-loop-index l =
    subjects l.pieces.items ≡ flat_map (λ j. record_subjects (entry_at l.node j)) (take l.index-index l.records)
