-- An interval has one list of pieces.
use Rattle.std.{proofs.Common.{◌≡◌, ℕ, suc, ◌+◌, ◌<◌, ◌≤◌, List, [], ◌∷◌, length, get_or, refl, sym, ap, subst, ◌∙◌, arith, inl, inr}, specs.Prelude.{Option, Some, None, All, Any, AllPairs, ◌↔◌, MatchOption}, proofs.lemmas.Bool.{cases_lt}, proofs.lemmas.List.{get_or_default}, proofs.lemmas.List.Elements.{All-head, All-tail}}
use Rattle.mctp_routing.{specs.declared.row.TableRow.{TableRow}, specs.declared.row.Hop.{Hop}, specs.Rows.{Covers, IsTable}, specs.Pieces.{PieceValue, LiesIn, IsPartOf, IsGap, IsWhole, ArePieces}, proofs.PieceChains.{any_cases, any_here, any_later, any_none}}

-- one row of a table covers an EID
one_row : (rows : List TableRow) (i j e : ℕ) (row other : TableRow) → IsTable rows → i < length rows → get_or rows i row ≡ row → Covers row e
    → j < length rows → get_or rows j other ≡ other → Covers other e → row ≡ other
one_row rows i j e row other table li is covers lj at also =
    let that : get_or rows j row ≡ other = get_or_default rows j row other lj ∙ at in
    let low = covers.0 in
    let high = covers.1 in
    let also_low = also.0 in
    let also_high = also.1 in
    elim (cases_lt i j) [
      | inl before ↦ (let below = rw (is, that) at (table.ascending i j row before lj) in absurd (omega arith))
      | inr from ↦ elim (cases_lt j i) [
        | inl after ↦ (let below = rw (is, that) at (table.ascending j i row after li) in absurd (omega arith))
        | inr upto ↦ (let same : i ≡ j = omega arith in sym is ∙ ap (λ n. get_or rows n row) same ∙ that)
      ]
    ]

module _ (rows : List TableRow) (first last : ℕ) (table : IsTable rows) where
  -- a piece with this hop or without one is whole
  abbrev Whole : Option Hop → PieceValue → Type 0
  Whole hop piece = MatchOption hop (IsGap rows first last piece) (λ hop. Any (λ row. (row.hop ≡ hop) × IsPartOf first last piece row) rows)

  same_hop : (x y : Option Hop) (piece other : PieceValue) (e : ℕ) → Whole x piece → Whole y other → LiesIn e piece → LiesIn e other → x ≡ y
  same_hop None None piece other e whole also lies too = refl
  same_hop None (Some h) piece other e whole (k, row, lt, is, part) lies too =
      absurd (whole.bare e lies (k, row, lt, is, ((part.1 e).0 too).2))
  same_hop (Some h) None piece other e (k, row, lt, is, part) also lies too =
      absurd (also.bare e too (k, row, lt, is, ((part.1 e).0 lies).2))
  same_hop (Some h) (Some g) piece other e (k, row, lt, is, part) (j, next, within, at, share) lies too =
      let same = one_row rows k j e row next table lt is ((part.1 e).0 lies).2 within at ((share.1 e).0 too).2 in
      ap Some (sym part.0 ∙ ap (λ (r : TableRow). r.hop) same ∙ share.0)

  not_longer : (x : Option Hop) (piece other : PieceValue) (e : ℕ) → Whole x piece → Whole x other → LiesIn e piece → LiesIn e other → other.last ≤ last
      → ¬ (piece.last < other.last)
  not_longer None piece other e whole also lies too within longer =
      let end = lies.1 in
      let begin = too.0 in
      elim whole.above [
        | inl ends ↦ absurd (omega arith)
        | inr covered ↦ absurd (also.bare (piece.last + 1) (omega arith, omega arith) covered)
      ]
  not_longer (Some h) piece other e (k, row, lt, is, part) (j, next, inside, at, share) lies too within longer =
      let same = one_row rows k j e row next table lt is ((part.1 e).0 lies).2 inside at ((share.1 e).0 too).2 in
      let begin = too.0 in
      let end = too.1 in
      let told = (share.1 other.last).0 (omega arith, omega arith) in
      let covers : Covers row other.last = subst (λ r. Covers r other.last) (sym same) told.2 in
      let back = (part.1 other.last).1 (told.0, told.1, covers) in
      let past = back.1 in
      absurd (omega arith)

  -- whole pieces that begin alike are one
  one_piece : (piece other : PieceValue) → piece.first ≡ other.first → piece.first ≤ piece.last → other.first ≤ other.last → piece.last ≤ last → other.last ≤ last
      → IsWhole rows first last piece → IsWhole rows first last other → piece ≡ other
  one_piece piece other begins filled also within too whole all =
      let e = piece.first in
      let hops = same_hop piece.hop other.hop piece other e whole all (omega arith, filled) (omega arith, omega arith) in
      let whole_now : Whole other.hop piece = subst (λ h. Whole h piece) hops whole in
      let short = not_longer other.hop piece other e whole_now all (omega arith, filled) (omega arith, omega arith) too in
      let long = not_longer other.hop other piece e all whole_now (omega arith, omega arith) (omega arith, filled) within in
      let ends : piece.last ≡ other.last = elim (cases_lt piece.last other.last) [
        | inl lt ↦ absurd (short lt)
        | inr ge ↦ elim (cases_lt other.last piece.last) [ inl lt ↦ absurd (long lt) | inr le ↦ omega arith ]
      ] in
      λ i. record { first = begins i; last = ends i; hop = hops i }

  -- the pieces of the interval from here on
  record AreRest (from : ℕ) (pieces : List PieceValue) : Type 0 where
    filled : All (λ piece. piece.first ≤ piece.last) pieces
    ascending : AllPairs (λ piece later. piece.last < later.first) pieces
    covering : (e : ℕ) → Any (LiesIn e) pieces ↔ ((from ≤ e) × (e ≤ last))
    whole : All (IsWhole rows first last) pieces

  -- pieces after the first begin past it
  past_first : (piece : PieceValue) (later : List PieceValue) (e : ℕ) → AllPairs (λ piece later. piece.last < later.first) (piece ∷ later)
      → Any (LiesIn e) later → piece.last < e
  past_first piece later e ascending (k, other, lt, is, lies) =
      let order = rw is at (ascending 0 (suc k) other (omega arith) (omega arith)) in
      let begins = lies.0 in
      omega arith

  head_inside : (from : ℕ) (piece : PieceValue) (later : List PieceValue) → AreRest from (piece ∷ later)
      → (piece.first ≡ from) × (piece.first ≤ piece.last) × (piece.last ≤ last)
  head_inside from piece later rest =
      let filled = All-head (λ piece. piece.first ≤ piece.last) piece later rest.filled in
      let low = (rest.covering piece.first).0 (any_here (LiesIn piece.first) piece later (omega arith, filled)) in
      let high = (rest.covering piece.last).0 (any_here (LiesIn piece.last) piece later (filled, omega arith)) in
      let least = low.0 in
      let most = high.1 in
      elim (any_cases (LiesIn from) piece later ((rest.covering from).1 (omega arith, omega arith))) [
        | inl here ↦ (let begins = here.0 in (omega arith, filled, most))
        | inr there ↦ (let past = past_first piece later from rest.ascending there in absurd (omega arith))
      ]

  tail_rest : (from : ℕ) (piece : PieceValue) (later : List PieceValue) → AreRest from (piece ∷ later) → AreRest (piece.last + 1) later
  tail_rest from piece later rest =
      let head = head_inside from piece later rest in
      let begins = head.0 in
      let filled = head.1 in
      record {
        filled = All-tail (λ piece. piece.first ≤ piece.last) piece later rest.filled;
        ascending = λ i j d lt lj. rest.ascending (suc i) (suc j) d (omega arith) (omega arith);
        covering = λ e. (
          λ some. (let past = past_first piece later e rest.ascending some in
              let within = ((rest.covering e).0 (any_later (LiesIn e) piece later some)).1 in (omega arith, within)),
          λ inside. (let low = inside.0 in elim (any_cases (LiesIn e) piece later ((rest.covering e).1 (omega arith, inside.1))) [
            | inl here ↦ (let upto = here.1 in absurd (omega arith))
            | inr there ↦ there
          ]),
        );
        whole = All-tail (IsWhole rows first last) piece later rest.whole;
      }

  one_rest : (from : ℕ) (pieces others : List PieceValue) → AreRest from pieces → AreRest from others → pieces ≡ others
  one_rest from [] [] rest also = refl
  one_rest from [] (other ∷ later) rest also =
      let head = head_inside from other later also in
      let begins = head.0 in let filled = head.1 in let ends = head.2 in
      absurd (any_none (LiesIn from) ((rest.covering from).1 (omega arith, omega arith)))
  one_rest from (piece ∷ later) [] rest also =
      let head = head_inside from piece later rest in
      let begins = head.0 in let filled = head.1 in let ends = head.2 in
      absurd (any_none (LiesIn from) ((also.covering from).1 (omega arith, omega arith)))
  one_rest from (piece ∷ later) (other ∷ more) rest also =
      let head = head_inside from piece later rest in
      let that = head_inside from other more also in
      let same = one_piece piece other (head.0 ∙ sym that.0) head.1 that.1 head.2 that.2
      (All-head (IsWhole rows first last) piece later rest.whole) (All-head (IsWhole rows first last) other more also.whole) in
      let next : AreRest (piece.last + 1) more = subst (λ (p : PieceValue). AreRest (p.last + 1) more) (sym same) (tail_rest from other more also) in
      let tails = one_rest (piece.last + 1) later more (tail_rest from piece later rest) next in
      ap (λ p. p ∷ later) same ∙ ap (λ ps. other ∷ ps) tails

  pub one_list : (pieces others : List PieceValue) → ArePieces rows first last pieces → ArePieces rows first last others → pieces ≡ others
  one_list pieces others are also = one_rest first pieces others
      (record { filled = are.filled; ascending = are.ascending; covering = are.covering; whole = are.whole })
      (record { filled = also.filled; ascending = also.ascending; covering = also.covering; whole = also.whole })
