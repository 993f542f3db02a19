use Rattle.std.{proofs.Common.{◌≡◌, take}, specs.List.{flat_map}}
use Rattle.explanation_texts.{specs.Explanations.{row_for, way_subjects}, specs.Pieces.{subjects}}
use Rattle.explanation_texts.proofs.explanations.ways_pieces.Given as goal

abbrev pub invariant-loop-node : goal.invariant-loop-node
invariant-loop-node l =
    subjects l.pieces.items ≡ flat_map (λ n. way_subjects (row_for l.plan l.eid.value n)) (take l.node-index l.nodes)
