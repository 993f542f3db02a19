-- The pieces ahead are whole parts of rows and whole gaps.
use Rattle.std.{proofs.Common.{◌≡◌, ℕ, ◌+◌, ◌-◌, ◌<◌, ◌≤◌, List, [], ◌∷◌, ◌++◌, length, get_or, drop, refl, sym, subst, ap, ◌∙◌, arith, inl, inr, ◌⊎◌}, specs.Prelude.{Option, Some, None, All, Any, MatchOption}, specs.List.{AllWithin}, proofs.lemmas.Bool.{cases_lt}, proofs.lemmas.List.{get_or-drop, length-drop}, proofs.lemmas.List.Elements.{All-nil, All-cons, All-append, All-weaker, All-drop}}
use Rattle.mctp_routing.{specs.declared.row.TableRow.{TableRow}, specs.declared.row.Hop.{Hop}, specs.Rows.{Covers, IsLawful, IsTable, IsNext, Routes}, specs.Pieces.{PieceValue, LiesIn, IsCovered, IsPartOf, IsGap, IsWhole, ArePieces}, specs.PiecesLeft.{piece_to, run, clipped, pieces_from, Reaches}, proofs.Apart.{ends_within}, proofs.PieceSteps.{run_some, run_none, row_parts, no_rows, none_left, table_tail, later_begin, later_reach}, proofs.PieceChains.{any_cases, any_here, any_later, any_none, chain_ahead, chain_filled, chain_ascends, chain_joined, chain_within, chain_covers}}

-- The rows that can still cover an EID from here on, in an interval that began at first: of all rows no other does. The
-- interval begins here, or the EID before is covered and no row began before.
record AreLater (all rows : List TableRow) (first from : ℕ) : Type 0 where
  begun : first ≤ from
  table : IsTable rows
  reaching : All (Reaches from) rows
  rest : (e : ℕ) → from ≤ e → IsCovered all e → IsCovered rows e
  left : (from ≡ first) ⊎ (IsCovered all (from - 1) × All (λ row. from ≤ row.first.value) rows)

-- a fact of some of the later rows holds of some row
abbrev Among : List TableRow → List TableRow → Type 1
Among all rows = (P : TableRow → Type 0) → Any P rows → Any P all

run_all : (P : PieceValue → Type 0) (from stop : ℕ) (hop : Option Hop) → (from < stop → P (piece_to from stop hop)) → All P (run from stop hop)
run_all P from stop hop holds =
    elim (cases_lt from stop) [
      | inl lt ↦ rw (run_some from stop hop lt) (All-cons P (piece_to from stop hop) [] (holds lt) (All-nil P))
      | inr past ↦ rw (run_none from stop hop past) (All-nil P)
    ]

-- a lawful row covers what lies between its begin and its end
covers_between : (row : TableRow) (e : ℕ) → IsLawful row → row.first.value ≤ e → e < row.first.value + row.size → Covers row e
covers_between row e lawful low high = (low, high, ends_within row lawful high)

-- no row covers an EID before the first begins
bare_before : (row : TableRow) (rows : List TableRow) (e : ℕ) → IsTable (row ∷ rows) → e < row.first.value → ¬ IsCovered (row ∷ rows) e
bare_before row rows e table lt covered =
    elim (any_cases (λ r. Covers r e) row rows covered) [
      | inl here ↦ absurd (omega arith)
      | inr (k, other, within, is, there) ↦ (let begins = rw is at (later_begin row rows table k other within) in absurd (omega arith))
    ]

module _ (all : List TableRow) (first last : ℕ) where
  last_whole : (from : ℕ) → from ≤ last → AreLater all [] first from → IsWhole all first last (piece_to from (last + 1) None)
  last_whole from le later = record {
    bare = λ e lies covered. any_none (λ r. Covers r e) (later.rest e lies.0 covered);
    below = elim later.left [ inl begins ↦ inl begins | inr before ↦ inr before.0 ];
    above = inl (omega arith);
  }

  gap_whole : (row : TableRow) (rows : List TableRow) (from begin : ℕ) → from ≤ last → begin ≡ clipped from (last + 1) row.first.value → from < begin
      → AreLater all (row ∷ rows) first from → Among all (row ∷ rows) → IsWhole all first last (piece_to from begin None)
  gap_whole row rows from begin le begins some later among = record {
    bare = λ e lies covered. bare_before row rows e later.table (let low = lies.0 in let high = lies.1 in omega arith) (later.rest e lies.0 covered);
    below = elim later.left [ inl start ↦ inl start | inr before ↦ inr before.0 ];
    above = elim (cases_lt row.first.value (last + 1)) [
      | inl inside ↦
          (let lawful = later.table.each 0 row (omega arith) in
          let size = lawful.0 in
          let is : row.first.value ≡ begin - 1 + 1 = omega arith in
          inr (subst (IsCovered all) is (among (λ r. Covers r row.first.value) (any_here (λ r. Covers r row.first.value) row rows
          (covers_between row row.first.value lawful (omega arith) (omega arith))))))
      | inr outside ↦ inl (omega arith)
    ];
  }

  part_whole : (row : TableRow) (rows : List TableRow) (from begin stop : ℕ) → from ≤ last → begin ≡ clipped from (last + 1) row.first.value
      → stop ≡ clipped from (last + 1) (row.first.value + row.size) → begin < stop → AreLater all (row ∷ rows) first from
      → Among all (row ∷ rows) → IsWhole all first last (piece_to begin stop (Some row.hop))
  part_whole row rows from begin stop le begins stops some later among =
      let reach = later.reaching 0 row (omega arith) in
      let lawful = later.table.each 0 row (omega arith) in
      let started = later.begun in
      among (λ r. (r.hop ≡ row.hop) × IsPartOf first last (piece_to begin stop (Some row.hop)) r)
      (any_here (λ r. (r.hop ≡ row.hop) × IsPartOf first last (piece_to begin stop (Some row.hop)) r) row rows (
        refl,
        λ e. (
          λ lies.
              (let low = lies.0 in let high = lies.1 in
              (omega arith, omega arith, covers_between row e lawful (omega arith) (omega arith))),
          λ inside.
              (let from_first = inside.0 in let to_last = inside.1 in let low = inside.2.0 in let high = inside.2.1 in
              let here : from ≤ e = elim later.left [
                | inl start ↦ omega arith
                | inr before ↦ (let begun = before.1 0 row (omega arith) in omega arith)
              ] in
              (omega arith, omega arith)),
        ),
      ))

  -- what can still cover an EID past the first row
  after_row : (row : TableRow) (rows : List TableRow) (from stop : ℕ) → stop ≡ row.first.value + row.size → from ≤ stop
      → AreLater all (row ∷ rows) first from → Among all (row ∷ rows) → AreLater all rows first stop
  after_row row rows from stop stops le later among =
      let lawful = later.table.each 0 row (omega arith) in
      let size = lawful.0 in
      let started = later.begun in
      record {
        begun = omega arith;
        table = table_tail row rows later.table;
        reaching = later_reach row rows stop later.table (omega arith);
        rest = λ e past covered. elim (any_cases (λ r. Covers r e) row rows (later.rest e (omega arith) covered)) [
          | inl here ↦ absurd (omega arith)
          | inr there ↦ there
        ];
        left = inr (
          among (λ r. Covers r (stop - 1)) (any_here (λ r. Covers r (stop - 1)) row rows (covers_between row (stop - 1) lawful (omega arith) (omega arith))),
          λ k d lt. (let begins = later_begin row rows later.table k d lt in omega arith),
        );
      }

  all_whole : (rows : List TableRow) (from : ℕ) → from ≤ last → AreLater all rows first from → Among all rows
      → All (IsWhole all first last) (pieces_from rows from (last + 1))
  all_whole [] from le later among =
      rw (no_rows from (last + 1)) (run_all (IsWhole all first last) from (last + 1) None (λ some. last_whole from le later))
  all_whole (row ∷ rows) from le later among =
      let begin = clipped from (last + 1) row.first.value in
      let stop = clipped from (last + 1) (row.first.value + row.size) in
      let more = pieces_from rows stop (last + 1) in
      let reach = later.reaching 0 row (omega arith) in
      rw (row_parts row rows from (last + 1) begin stop refl refl)
      (All-append (IsWhole all first last) (run from begin None) (run begin stop (Some row.hop) ++ more) (run_all (IsWhole all first last) from begin None (λ some. gap_whole row rows from begin le refl some later among))
      (All-append (IsWhole all first last) (run begin stop (Some row.hop)) more (run_all (IsWhole all first last) begin stop (Some row.hop) (λ some. part_whole row rows from begin stop le refl refl some later among))
      (elim (cases_lt stop (last + 1)) [
        | inl more ↦ all_whole rows stop (omega arith) (after_row row rows from stop (omega arith) (omega arith) later among)
            (λ P there. among P (any_later P row rows there))
        | inr past ↦ rw (none_left rows stop (last + 1) past) (All-nil (IsWhole all first last))
      ])))

routed_covers : (rows : List TableRow) (e : ℕ) (hop : Hop) → Routes rows e hop → IsCovered rows e
routed_covers rows e hop (k, row, lt, is, routed) = (k, row, lt, is, routed.0)

part_routes : (rows : List TableRow) (first last : ℕ) (piece : PieceValue) (hop : Hop) (e : ℕ) → LiesIn e piece
    → Any (λ row. (row.hop ≡ hop) × IsPartOf first last piece row) rows → Routes rows e hop
part_routes rows first last piece hop e lies (k, row, lt, is, part) = (k, row, lt, is, (((part.1 e).0 lies).2, part.0))

-- the hop of a whole piece is that of its EIDs
hop_routes : (rows : List TableRow) (first last : ℕ) (piece : PieceValue) (hop : Option Hop)
    → MatchOption hop (IsGap rows first last piece) (λ hop. Any (λ row. (row.hop ≡ hop) × IsPartOf first last piece row) rows)
    → (e : ℕ) → LiesIn e piece → IsNext rows e hop
hop_routes rows first last piece None gap e lies = λ hop routed. gap.bare e lies (routed_covers rows e hop routed)
hop_routes rows first last piece (Some hop) part e lies = part_routes rows first last piece hop e lies part

-- an element from there on is one of the list
among_rows : (rows : List TableRow) (passed : ℕ) → Among rows (drop passed rows)
among_rows rows passed P (k, row, lt, is, holds) =
    (passed + k, row, omega (arith, length-drop passed rows), sym (get_or-drop passed rows k row) ∙ is, holds)

-- a row that covers an EID from first on reaches past first
still_covered : (rows : List TableRow) (first passed : ℕ) → passed ≤ length rows → AllWithin (λ row. ¬ Reaches first row) rows 0 passed → (e : ℕ) → first ≤ e
    → IsCovered rows e → IsCovered (drop passed rows) e
still_covered rows first passed within ended e past (k, row, lt, is, covers) =
    elim (cases_lt k passed) [
      | inl before ↦ (let not_reached = rw is at (ended k row (omega arith) before) in absurd (not_reached (let high = covers.1 in omega arith)))
      | inr from ↦
          (let index : passed + (k - passed) ≡ k = omega arith in (
            k - passed,
            row,
            omega (arith, length-drop passed rows),
            get_or-drop passed rows (k - passed) row ∙ ap (λ n. get_or rows n row) index ∙ is,
            covers,
          ))
    ]

-- from first on only the rows that reach past it cover an EID
later_rows : (rows : List TableRow) (first passed : ℕ) → IsTable rows → passed ≤ length rows → AllWithin (λ row. ¬ Reaches first row) rows 0 passed
    → AllWithin (Reaches first) rows passed (length rows) → AreLater rows (drop passed rows) first first
later_rows rows first passed table within ended reaching = record {
  begun = omega arith;
  table = record {
    each = All-drop IsLawful passed rows table.each;
    ascending = λ i j d lt lj. rw (get_or-drop passed rows i d, get_or-drop passed rows j d)
        (table.ascending (passed + i) (passed + j) d (omega arith) (omega (arith, length-drop passed rows)));
  };
  reaching = λ k d lt. rw (get_or-drop passed rows k d) (reaching (passed + k) d (omega arith) (omega (arith, length-drop passed rows)));
  rest = still_covered rows first passed within ended;
  left = inl refl;
}

-- the pieces ahead, where they begin with the rows that reach past first
pub are_pieces : (rows later : List TableRow) (first last passed : ℕ) → IsTable rows → first ≤ last → passed ≤ length rows
    → AllWithin (λ row. ¬ Reaches first row) rows 0 passed → AllWithin (Reaches first) rows passed (length rows) → later ≡ drop passed rows
    → ArePieces rows first last (pieces_from later first (last + 1))
are_pieces rows later first last passed table ordered within ended reaching is =
    let ahead = pieces_from later first (last + 1) in
    let chain = chain_ahead later first (last + 1) (omega arith) in
    let later_now : AreLater rows later first first = rw is (later_rows rows first passed table within ended reaching) in
    let among_now : Among rows later = rw is (among_rows rows passed) in
    let whole = all_whole rows first last later first ordered later_now among_now in
    record {
      filled = chain_filled ahead first (last + 1) chain;
      joined = chain_joined ahead first (last + 1) chain;
      ascending = chain_ascends ahead first (last + 1) chain;
      covering = λ e. (
        λ some. (let h = chain_within ahead first (last + 1) e chain some in (h.0, omega arith)),
        λ inside. chain_covers ahead first (last + 1) e chain inside.0 (let high = inside.1 in omega arith),
      );
      routed = All-weaker (IsWhole rows first last) (λ piece. (e : ℕ) → LiesIn e piece → IsNext rows e piece.hop)
          (λ piece holds. hop_routes rows first last piece piece.hop holds) ahead whole;
      whole = whole;
    }
