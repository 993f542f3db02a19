use Rattle.std.specs.Prelude.{All, IsSome}
use Rattle.message_tests.proofs.tests.pieces.first_uncovered.Given as goal

-- each piece so far has a row
abbrev pub invariant-loop-piece : goal.invariant-loop-piece
invariant-loop-piece l = All (λ piece. IsSome piece.hop) l.yielded
