-- The pieces of an interval of endpoint IDs: what the rows of a table make of it (they are this project's own).
use Rattle.std.{specs.Prelude.{◌≡◌, ◌⊎◌, ◌↔◌, ℕ, ◌+◌, ◌-◌, ◌<◌, ◌≤◌, List, length, Option, MatchOption, All, Any, AllPairs}, specs.List.{AllAdjacentBelow}}
use Rattle.mctp_routing.{specs.declared.row.TableRow.{TableRow}, specs.declared.row.Hop.{Hop}, specs.declared.pieces.Piece.{Piece}, specs.Rows.{Covers, IsNext}}

-- a piece's first and last EID, and the hop of its row, none for a gap between rows
pub record PieceValue : Type 0 where
  pub first : ℕ
  pub last : ℕ
  pub hop : Option Hop

abbrev pub piece_value : Piece → PieceValue
piece_value piece = record { first = piece.first.value; last = piece.last.value; hop = piece.hop }

-- e is one of the piece's EIDs
abbrev pub LiesIn : ℕ → PieceValue → Type 0
LiesIn e piece = (piece.first ≤ e) × (e ≤ piece.last)

-- some row covers e
abbrev pub IsCovered : List TableRow → ℕ → Type 0
IsCovered rows e = Any (λ row. Covers row e) rows

-- the piece's EIDs are all those of the interval that the row covers
abbrev pub IsPartOf : (first last : ℕ) → PieceValue → TableRow → Type 0
IsPartOf first last piece row = (e : ℕ) → LiesIn e piece ↔ ((first ≤ e) × (e ≤ last) × Covers row e)

-- No row covers an EID of the piece. On each side the piece ends with the interval, or the EID next to it is covered.
pub record IsGap (rows : List TableRow) (first last : ℕ) (piece : PieceValue) : Type 0 where
  pub bare : (e : ℕ) → LiesIn e piece → ¬ IsCovered rows e
  pub below : (piece.first ≡ first) ⊎ IsCovered rows (piece.first - 1)
  pub above : (piece.last ≡ last) ⊎ IsCovered rows (piece.last + 1)

-- a piece with a hop is the whole part of a row with this hop, one without is a whole gap
abbrev pub IsWhole : List TableRow → (first last : ℕ) → PieceValue → Type 0
IsWhole rows first last piece =
    MatchOption piece.hop (IsGap rows first last piece)
    (λ hop. Any (λ row. (row.hop ≡ hop) × IsPartOf first last piece row) rows)

-- The pieces of the interval from first to last: none is empty, each begins one after the one before it, they ascend,
-- together they have the interval's EIDs and no others, the hop of a piece is that of each of its EIDs, and each piece
-- is the whole part of a row or a whole gap, so that no row and no gap is cut in two.
pub record ArePieces (rows : List TableRow) (first last : ℕ) (pieces : List PieceValue) : Type 0 where
  pub filled : All (λ piece. piece.first ≤ piece.last) pieces
  pub joined : AllAdjacentBelow (λ piece later. later.first ≡ piece.last + 1) pieces (length pieces)
  pub ascending : AllPairs (λ piece later. piece.last < later.first) pieces
  pub covering : (e : ℕ) → Any (LiesIn e) pieces ↔ ((first ≤ e) × (e ≤ last))
  pub routed : All (λ piece. (e : ℕ) → LiesIn e piece → IsNext rows e piece.hop) pieces
  pub whole : All (IsWhole rows first last) pieces
