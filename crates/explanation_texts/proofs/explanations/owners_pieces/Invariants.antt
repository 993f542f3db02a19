use Rattle.std.{proofs.Common.{◌≡◌, take}, specs.List.{flat_map}}
use Rattle.explanation_texts.{specs.Explanations.{owner_subjects}, specs.Pieces.{subjects}}
use Rattle.explanation_texts.proofs.explanations.owners_pieces.Given as goal

abbrev pub invariant-loop-node : goal.invariant-loop-node
invariant-loop-node l = subjects l.pieces.items ≡ flat_map owner_subjects (take l.node-index l.nodes)
