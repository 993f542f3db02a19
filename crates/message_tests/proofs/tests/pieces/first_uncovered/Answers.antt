use Rattle.std.{proofs.Common.{◌≡◌, ℕ, ◌≤◌, List, length, refl, sym, ap, ◌∙◌, arith}, specs.Prelude.{All, Option, Some, None, IsSome, is_some, Bool, true, not}, proofs.lemmas.Bool.{false≢true}, proofs.lemmas.Iterator.Consumers.{YieldsList-from_first, YieldsList-so_far, YieldsList-turn, YieldsList-end}}
use Rattle.mctp_routing.{specs.declared.row.TableRow.{TableRow}, specs.declared.row.Hop.{Hop}, specs.declared.pieces.Piece.{Piece}, specs.Rows.{IsNext}, specs.Pieces.{PieceValue, piece_value, LiesIn, IsCovered}, proofs.PieceLoops.{at_place, yielded_hold, holds_before, holds_throughout, inside_interval}}
use Rattle.message_tests.proofs.tests.pieces.first_uncovered.Goals as goal

-- the piece's hop is that of its EIDs
abbrev IsRouted : List TableRow → PieceValue → Type 0
IsRouted rows piece = (e : ℕ) → LiesIn e piece → IsNext rows e piece.hop

hop_covers : (rows : List TableRow) (e : ℕ) (hop : Option Hop) → IsSome hop → IsNext rows e hop → IsCovered rows e
hop_covers rows e None some next = absurd (false≢true some)
hop_covers rows e (Some hop) some (k, row, lt, is, routed) = (k, row, lt, is, routed.0)

none_bare : (rows : List TableRow) (e : ℕ) (hop : Option Hop) (answer : Bool) → is_some hop ≡ not answer → answer ≡ true → IsNext rows e hop → ¬ IsCovered rows e
none_bare rows e None answer is told next (k, row, lt, at, covers) = next row.hop (k, row, lt, at, (covers, refl))
none_bare rows e (Some hop) answer is told next covered = absurd (false≢true (sym (is ∙ ap not told)))

-- each EID of pieces with a hop is covered
covered_by : (rows : List TableRow) (xs : List Piece) → All (λ piece. IsSome piece.hop) xs → All (λ piece. IsRouted rows (piece_value piece)) xs
    → All (λ piece. (e : ℕ) → LiesIn e (piece_value piece) → IsCovered rows e) xs
covered_by rows xs hops routed k d lt e lies = hop_covers rows e _ (hops k d lt) (routed k d lt e lies)

pub returns-then-is_none-clause-bare : goal.returns-then-is_none-clause-bare
returns-then-is_none-clause-bare c =
    let all = c.pieces-piece-items.result in
    let are = c.pieces-piece-items.ensures in
    let rows = c.args.table.now in
    let piece = c.in-Some.piece in
    let place = length c.loop-piece.yielded in
    let road = YieldsList-from_first piece_value (λ left. left) all c.into_iter-piece-iterator.ensures.into_iter_gives in
    let turn = YieldsList-turn road c.loop-piece.yielded _ c.loop-piece.yielded_by _ _ piece c.in-Some.is c.next.ensures.steps in
    let routed = at_place (IsRouted rows) all place (piece_value piece) are.routed turn.0 turn.1 in
    let filled = at_place (λ p. p.first ≤ p.last) all place (piece_value piece) are.filled turn.0 turn.1 in
    none_bare rows piece.first.value piece.hop c.is_none.result c.is_none.ensures c.if-is_none.true (routed piece.first.value (omega arith, filled))

pub returns-then-is_none-clause-inside : goal.returns-then-is_none-clause-inside
returns-then-is_none-clause-inside c =
    let all = c.pieces-piece-items.result in
    let are = c.pieces-piece-items.ensures in
    let piece = c.in-Some.piece in
    let place = length c.loop-piece.yielded in
    let road = YieldsList-from_first piece_value (λ left. left) all c.into_iter-piece-iterator.ensures.into_iter_gives in
    let turn = YieldsList-turn road c.loop-piece.yielded _ c.loop-piece.yielded_by _ _ piece c.in-Some.is c.next.ensures.steps in
    let inside = inside_interval c.args.table.now c.args.first.value c.args.last.value all place (piece_value piece) are turn.0 turn.1 in
    (omega arith, omega arith)

pub returns-then-is_none-clause-least : goal.returns-then-is_none-clause-least
returns-then-is_none-clause-least c =
    let all = c.pieces-piece-items.result in
    let are = c.pieces-piece-items.ensures in
    let rows = c.args.table.now in
    let first = c.args.first.value in
    let last = c.args.last.value in
    let xs = c.loop-piece.yielded in
    let road = YieldsList-from_first piece_value (λ left. left) all c.into_iter-piece-iterator.ensures.into_iter_gives in
    let turn = YieldsList-turn road xs _ c.loop-piece.yielded_by _ _ c.in-Some.piece c.in-Some.is c.next.ensures.steps in
    let so_far = YieldsList-so_far road xs _ c.loop-piece.yielded_by in
    let within : length xs ≤ length all = (let lt = turn.0 in omega arith) in
    let routed = yielded_hold rows first last all are xs so_far (IsRouted rows) within are.routed in
    holds_before rows first last all are xs so_far (IsCovered rows) (covered_by rows xs c.loop-piece.invariant routed) c.in-Some.piece turn.0 turn.1

pub returns-clause-none : goal.returns-clause-none
returns-clause-none c =
    let all = c.pieces-piece-items.result in
    let are = c.pieces-piece-items.ensures in
    let rows = c.args.table.now in
    let first = c.args.first.value in
    let last = c.args.last.value in
    let xs = c.loop-piece.yielded in
    let road = YieldsList-from_first piece_value (λ left. left) all c.into_iter-piece-iterator.ensures.into_iter_gives in
    let ended = YieldsList-end road xs _ c.loop-piece.yielded_by _ _ c.in-None.is c.next.ensures.steps in
    let so_far = YieldsList-so_far road xs _ c.loop-piece.yielded_by in
    let within : length xs ≤ length all = (let same = ended.1 in omega arith) in
    let routed = yielded_hold rows first last all are xs so_far (IsRouted rows) within are.routed in
    holds_throughout rows first last all are xs so_far (IsCovered rows) (covered_by rows xs c.loop-piece.invariant routed) ended.1
