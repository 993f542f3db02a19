-- What an iterator over pieces has yet to give.
use Rattle.std.specs.Prelude.{ℕ, ◌+◌, ◌-◌, ◌<◌, ◌≤◌, min, max, Option, Some, None, nat_lt, if◌then◌else◌, List, [], ◌∷◌, ◌++◌, All}
use Rattle.mctp_routing.{specs.declared.row.TableRow.{TableRow}, specs.declared.row.Hop.{Hop}, specs.Rows.{IsTable}, specs.Pieces.{PieceValue}}

-- the piece from an EID up to the one before the stop
abbrev pub piece_to : (from stop : ℕ) → Option Hop → PieceValue
piece_to from stop hop = record { first = from; last = stop - 1; hop = hop }

-- that piece, if it has an EID
unfoldable pub run : (from stop : ℕ) → Option Hop → List PieceValue
run from stop hop = if nat_lt from stop then piece_to from stop hop ∷ [] else []

-- the EID, moved to the nearest from an EID to an end
abbrev pub clipped : (from end e : ℕ) → ℕ
clipped from end e = max from (min e end)

-- the pieces from an EID up to the one before the end: the gap before a row, the row's part, and the pieces after it
unfoldable pub pieces_from : List TableRow → (from end : ℕ) → List PieceValue
pieces_from [] from end = run from end None
pieces_from (row ∷ rows) from end =
    run from (clipped from end row.first.value) None
    ++ (run (clipped from end row.first.value) (clipped from end (row.first.value + row.size)) (Some row.hop)
    ++ pieces_from rows (clipped from end (row.first.value + row.size)) end)

-- each row has an EID from here on
abbrev pub Reaches : ℕ → TableRow → Type 0
Reaches from row = from < row.first.value + row.size

-- the rows that can still come: those of a table, each with an EID from here on; the end is no higher than 256
pub record AreAhead (rows : List TableRow) (from end : ℕ) : Type 0 where
  pub table : IsTable rows
  pub reaching : All (Reaches from) rows
  pub within : end ≤ 256
