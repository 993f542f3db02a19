-- What the pieces ahead begin with.
use Rattle.std.{proofs.Common.{◌≡◌, ℕ, zero, suc, ◌+◌, ◌<◌, ◌≤◌, min, List, [], ◌∷◌, ◌++◌, length, get_or, true, false, refl, arith, inl, inr}, proofs.Math.Dec.{ltb, leb}, specs.Prelude.{Option, Some, None, All}, proofs.lemmas.Bool.{cond-true, cond-false, lt-ltb, le-ltb, cases_lt}, proofs.lemmas.Bool.Decides.{nat_tests}, specs.List.Sorted.{IsNonDecreasingBy}, proofs.lemmas.List.Elements.{All-tail}}
use Rattle.mctp_routing.{specs.declared.row.TableRow.{TableRow}, specs.declared.row.Hop.{Hop}, specs.Rows.{IsLawful, IsTable}, specs.Pieces.{PieceValue}, specs.PiecesLeft.{piece_to, run, clipped, pieces_from, Reaches, AreAhead}}

pub run_some : (from stop : ℕ) (hop : Option Hop) → from < stop → run from stop hop ≡ piece_to from stop hop ∷ []
unfolding run
run_some from stop hop lt = cond-true (ltb from stop) _ _ (lt-ltb from stop lt)

pub run_none : (from stop : ℕ) (hop : Option Hop) → stop ≤ from → run from stop hop ≡ []
unfolding run
run_none from stop hop le = cond-false (ltb from stop) _ _ (le-ltb from stop le)

-- the pieces up to a row's end, and those after it
pub row_parts : (row : TableRow) (rows : List TableRow) (from end begin stop : ℕ) → begin ≡ clipped from end row.first.value
    → stop ≡ clipped from end (row.first.value + row.size)
    → pieces_from (row ∷ rows) from end ≡ run from begin None ++ (run begin stop (Some row.hop) ++ pieces_from rows stop end)
unfolding pieces_from
row_parts row rows from end begin stop begins stops = rw (begins, stops) refl

pub no_rows : (from end : ℕ) → pieces_from [] from end ≡ run from end None
unfolding pieces_from
no_rows from end = refl

-- nothing is left at the end
pub none_left : (rows : List TableRow) (from end : ℕ) → end ≤ from → pieces_from rows from end ≡ []
none_left [] from end past = rw (no_rows from end) (run_none from end None past)
none_left (row ∷ rows) from end past =
    rw (
      row_parts row rows from end from from (omega arith) (omega arith),
      run_none from from None (omega arith),
      run_none from from (Some row.hop) (omega arith),
    ) (none_left rows from end past)

-- with no row left the last gap is ahead
pub last_gap : (from end : ℕ) → from < end → pieces_from [] from end ≡ piece_to from end None ∷ pieces_from [] end end
last_gap from end lt = rw (no_rows from end, no_rows end end, run_some from end None lt, run_none end end None (omega arith)) refl

-- before the next row a gap is ahead
pub gap_ahead : (row : TableRow) (rows : List TableRow) (from end stop : ℕ) → from < end → from < row.first.value → stop ≡ min row.first.value end
    → pieces_from (row ∷ rows) from end ≡ piece_to from stop None ∷ pieces_from (row ∷ rows) stop end
gap_ahead row rows from end stop lt before stops =
    let ended = min (row.first.value + row.size) end in
    rw (
      row_parts row rows from end stop ended (omega arith) (omega arith),
      row_parts row rows stop end stop ended (omega arith) (omega arith),
      run_some from stop None (omega arith),
      run_none stop stop None (omega arith),
    ) refl

-- in the next row its part is ahead
pub part_ahead : (row : TableRow) (rows : List TableRow) (from end stop : ℕ) → from < end → row.first.value ≤ from → Reaches from row
    → stop ≡ min (row.first.value + row.size) end
    → pieces_from (row ∷ rows) from end ≡ piece_to from stop (Some row.hop) ∷ pieces_from rows stop end
part_ahead row rows from end stop lt begun reach stops =
    rw (
      row_parts row rows from end from stop (omega arith) (omega arith),
      run_none from from None (omega arith),
      run_some from stop (Some row.hop) (omega arith),
    ) refl

-- the rows after the first make a table
pub table_tail : (row : TableRow) (rows : List TableRow) → IsTable (row ∷ rows) → IsTable rows
table_tail row rows table = record {
  each = All-tail IsLawful row rows table.each;
  ascending = λ i j d lt lj. table.ascending (suc i) (suc j) d (omega arith) (omega arith);
}

-- the rows after the first begin no lower than it ends
pub later_begin : (row : TableRow) (rows : List TableRow) → IsTable (row ∷ rows) → All (λ later. row.first.value + row.size ≤ later.first.value) rows
later_begin row rows table k d lt = table.ascending 0 (suc k) d (omega arith) (omega arith)

-- a row that begins no lower has an EID from there on
begun_reaches : (row : TableRow) (stop : ℕ) → IsLawful row → stop ≤ row.first.value → Reaches stop row
begun_reaches row stop lawful low = let some = lawful.0 in omega arith

-- the rows after the first have an EID from its end on
pub later_reach : (row : TableRow) (rows : List TableRow) (stop : ℕ) → IsTable (row ∷ rows) → stop ≤ row.first.value + row.size → All (Reaches stop) rows
later_reach row rows stop table low k d lt =
    let begins = later_begin row rows table k d lt in
    begun_reaches (get_or rows k d) stop (table.each (suc k) d (omega arith)) (omega arith)

-- all have one from its begin on
pub all_reach : (row : TableRow) (rows : List TableRow) (stop : ℕ) → IsTable (row ∷ rows) → stop ≤ row.first.value → All (Reaches stop) (row ∷ rows)
all_reach row rows stop table low zero d lt = begun_reaches row stop (table.each 0 d lt) low
all_reach row rows stop table low (suc k) d lt = later_reach row rows stop table (omega arith) k d (omega arith)

-- what is ahead once the gap before the first row has come
pub ahead_at_row : (row : TableRow) (rows : List TableRow) (from end stop : ℕ) → AreAhead (row ∷ rows) from end → stop ≡ min row.first.value end
    → AreAhead (row ∷ rows) stop end
ahead_at_row row rows from end stop ahead stops = record {
  table = ahead.table;
  reaching = all_reach row rows stop ahead.table (omega arith);
  within = ahead.within;
}

-- what is ahead once the first row's part has come
pub ahead_after_row : (row : TableRow) (rows : List TableRow) (from end stop : ℕ) → AreAhead (row ∷ rows) from end
    → stop ≡ min (row.first.value + row.size) end → AreAhead rows stop end
ahead_after_row row rows from end stop ahead stops = record {
  table = table_tail row rows ahead.table;
  reaching = later_reach row rows stop ahead.table (omega arith);
  within = ahead.within;
}

-- the rows of a table end in ascending order
pub ends_ascend : (rows : List TableRow) → IsTable rows → IsNonDecreasingBy (λ row. row.first.value + row.size) rows
ends_ascend rows table i j d le lt =
    elim (cases_lt i j) [
      | inl below ↦ (let lies = table.ascending i j d below lt in omega arith)
      | inr same ↦ (let e : i ≡ j = omega arith in rw e (omega arith))
    ]

pub ended_by : (row : TableRow) (e : ℕ) → leb (row.first.value + row.size) e ≡ true → ¬ Reaches e row
ended_by row e h = grind (arith, nat_tests)

pub not_ended_by : (row : TableRow) (e : ℕ) → leb (row.first.value + row.size) e ≡ false → Reaches e row
not_ended_by row e h = grind (arith, nat_tests)

-- the same for `next`: the piece that comes, and what is left where it ends
pub next_last : (rows : List TableRow) (from end stop : ℕ) (piece : PieceValue) → length rows ≡ 0 → from < end → piece ≡ piece_to from end None
    → stop ≡ end → pieces_from rows from end ≡ piece ∷ pieces_from rows stop end
next_last [] from end stop piece none lt is stops = rw (is, stops) (last_gap from end lt)
next_last (row ∷ rows) from end stop piece none lt is stops = absurd (omega arith)

pub next_gap : (rows later : List TableRow) (row : TableRow) (from end stop begin : ℕ) (piece : PieceValue) → rows ≡ row ∷ later → from < end
    → from < row.first.value → begin ≡ min row.first.value end → piece ≡ piece_to from begin None → stop ≡ begin
    → pieces_from rows from end ≡ piece ∷ pieces_from rows stop end
next_gap rows later row from end stop begin piece parts lt before begins is stops = rw (parts, is, stops) (gap_ahead row later from end begin lt before begins)

pub next_part : (rows later : List TableRow) (row : TableRow) (from end stop last : ℕ) (piece : PieceValue) → rows ≡ row ∷ later → from < end
    → row.first.value ≤ from → AreAhead rows from end → last ≡ min (row.first.value + row.size) end
    → piece ≡ piece_to from last (Some row.hop) → stop ≡ last → pieces_from rows from end ≡ piece ∷ pieces_from later stop end
next_part rows later row from end stop last piece parts lt begun ahead ends is stops =
    let now = rw parts at ahead in
    rw (parts, is, stops) (part_ahead row later from end last lt begun (now.reaching 0 row (omega arith)) ends)

pub ahead_then_gap : (rows later : List TableRow) (row : TableRow) (from end stop begin : ℕ) → rows ≡ row ∷ later → begin ≡ min row.first.value end
    → stop ≡ begin → AreAhead rows from end → AreAhead rows stop end
ahead_then_gap rows later row from end stop begin parts begins stops ahead =
    let now = rw parts at ahead in
    rw parts (ahead_at_row row later from end stop now (omega arith))

pub ahead_then_part : (rows later : List TableRow) (row : TableRow) (from end stop last : ℕ) → rows ≡ row ∷ later → last ≡ min (row.first.value + row.size) end
    → stop ≡ last → AreAhead rows from end → AreAhead later stop end
ahead_then_part rows later row from end stop last parts ends stops ahead =
    let now = rw parts at ahead in
    ahead_after_row row later from end stop now (omega arith)

pub reaches_stop : (rows later : List TableRow) (row : TableRow) (from end : ℕ) → rows ≡ row ∷ later → AreAhead rows from end → from < end
    → from < min (row.first.value + row.size) end
reaches_stop rows later row from end parts ahead lt =
    let now = rw parts at ahead in
    let reach = now.reaching 0 row (omega arith) in
    omega arith
