use Rattle.std.proofs.Common.{ℕ, List, ◌∷◌, subst, arith}
use Rattle.mctp_routing.specs.Pieces.{PieceValue, piece_value, ArePieces}
use Rattle.net_rules.{proofs.AlikeLaws.{piece_inside, piece_hop, piece_ends, some_piece}, proofs.certifying.stretches.routed_until.Goals.{In-Some}}
use Rattle.net_rules.proofs.certifying.stretches.routed_until.Goals as goal

pieces : (c : In-Some) → ArePieces c.args.table.now c.args.first.value 254 (piece_value c.in-Some.piece ∷ c.next.new.self)
pieces c =
    let P : List PieceValue → Type 0 = ArePieces c.args.table.now c.args.first.value c.new.result.value in
    let Q : ℕ → Type 0 = λ last. ArePieces c.args.table.now c.args.first.value last (piece_value c.in-Some.piece ∷ c.next.new.self) in
    subst Q c.new.ensures (subst P c.in-Some.ensures.steps c.pieces.ensures)

pub unreachable-requires : goal.unreachable-requires
unreachable-requires c =
    let P : List PieceValue → Type 0 = ArePieces c.args.table.now c.args.first.value c.new.result.value in
    some_piece c.args.table.now c.args.first.value c.new.result.value (omega (arith, c.requires, c.new.ensures)) (subst P c.in-None.ensures.steps.0 c.pieces.ensures)

pub returns-clause-ordered : goal.returns-clause-ordered
returns-clause-ordered c =
    let inside = piece_inside c.args.table.now c.args.first.value 254 c.in-Some.piece c.next.new.self (pieces ((goal.at.returns-clause-ordered c).In-Some)) in
    omega (arith, inside.0, inside.1)

pub returns-clause-within : goal.returns-clause-within
returns-clause-within c =
    (piece_inside c.args.table.now c.args.first.value 254 c.in-Some.piece c.next.new.self (pieces ((goal.at.returns-clause-within c).In-Some))).2

pub returns-clause-routed : goal.returns-clause-routed
returns-clause-routed c =
    piece_hop c.args.table.now c.args.first.value 254 c.in-Some.piece c.next.new.self (pieces ((goal.at.returns-clause-routed c).In-Some)) c.requires

pub returns-clause-ends : goal.returns-clause-ends
returns-clause-ends c =
    piece_ends c.args.table.now c.args.first.value 254 c.in-Some.piece c.next.new.self (pieces ((goal.at.returns-clause-ends c).In-Some)) (omega arith)
