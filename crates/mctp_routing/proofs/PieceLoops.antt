-- For a loop over pieces: the pieces that came so far, the next one, and the endpoint IDs that they have.
use Rattle.std.{proofs.Common.{◌≡◌, ℕ, zero, suc, ◌<◌, ◌≤◌, List, [], ◌∷◌, length, get_or, take, map, refl, sym, ap, subst, ◌∙◌, arith, inl, inr}, specs.Prelude.{All, Any}, proofs.lemmas.Bool.{cases_lt}, proofs.lemmas.List.{get_or_default, get_or-take, get_or-map}}
use Rattle.mctp_routing.{specs.declared.row.TableRow.{TableRow}, specs.declared.pieces.Piece.{Piece}, specs.Pieces.{PieceValue, piece_value, LiesIn, ArePieces}}

-- an element of a list, at its index
element : {X : Type 0} (xs : List X) (k : ℕ) → k < length xs → (x : X) × (get_or xs k x ≡ x)
element [] k lt = absurd (omega arith)
element (x ∷ xs) zero lt = (x, refl)
element (x ∷ xs) (suc k) lt = element xs k (omega arith)

-- what holds of each element and of some holds of one at once
pub seen : {X : Type 0} (P Q : X → Type 0) (xs : List X) → All P xs → Any Q xs → (x : X) × P x × Q x
seen P Q xs each (k, x, lt, is, holds) = (x, subst P is (each k x lt), holds)

-- what holds of each piece holds of the one at an index
pub at_place : (P : PieceValue → Type 0) (all : List PieceValue) (k : ℕ) (piece : PieceValue) → All P all → k < length all → piece ≡ get_or all k piece → P piece
at_place P all k piece each lt is = subst P (sym is) (each k piece lt)

-- an EID before a piece lies in no later one
not_from : (rows : List TableRow) (first last : ℕ) (all : List PieceValue) (index k : ℕ) (piece other : PieceValue) (e : ℕ) → ArePieces rows first last all
    → index < length all → piece ≡ get_or all index piece → e < piece.first → k < length all → get_or all k other ≡ other → LiesIn e other → ¬ (index ≤ k)
not_from rows first last all index k piece other e are lt is before within at lies from =
    let filled = at_place (λ p. p.first ≤ p.last) all index piece are.filled lt is in
    let begins = lies.0 in
    elim (cases_lt index k) [
      | inl later ↦
          (let order = are.ascending index k piece later within in
          let this : get_or all index piece ≡ piece = sym is in
          let that : get_or all k piece ≡ other = get_or_default all k piece other within ∙ at in
          let apart = rw (this, that) at order in
          absurd (omega arith))
      | inr upto ↦
          (let same : k ≡ index = omega arith in
          let one : other ≡ piece = sym at ∙ get_or_default all k other piece within ∙ ap (λ n. get_or all n piece) same ∙ sym is in
          let low : piece.first ≤ e = subst (λ (p : PieceValue). p.first ≤ e) one lies.0 in
          absurd (omega arith))
    ]

-- an EID of the interval before a piece lies in an earlier one
earlier_piece : (rows : List TableRow) (first last : ℕ) (all : List PieceValue) (index : ℕ) (piece : PieceValue) (e : ℕ) → ArePieces rows first last all
    → index < length all → piece ≡ get_or all index piece → first ≤ e → e < piece.first
    → (k : ℕ) × (other : PieceValue) × (k < index) × (get_or all k other ≡ other) × LiesIn e other
earlier_piece rows first last all index piece e are lt is low before =
    let filled = at_place (λ p. p.first ≤ p.last) all index piece are.filled lt is in
    let inside = (are.covering piece.last).0 (index, piece, lt, sym is, (filled, omega arith)) in
    let to_last = inside.1 in
    let some = (are.covering e).1 (low, omega arith) in
    elim (cases_lt some.0 index) [
      | inl earlier ↦ (some.0, some.1, earlier, some.3, some.4)
      | inr from ↦ absurd (not_from rows first last all index some.0 piece some.1 e are lt is before some.2 some.3 some.4 from)
    ]

module _ (rows : List TableRow) (first last : ℕ) (all : List PieceValue) (are : ArePieces rows first last all) (xs : List Piece)
    (so_far : map piece_value xs ≡ take (length xs) all) where
  value_at : (k : ℕ) (d : Piece) → k < length xs → piece_value (get_or xs k d) ≡ get_or all k (piece_value d)
  value_at k d lt =
      sym (get_or-map piece_value xs k d (piece_value d) lt) ∙ ap (λ ys. get_or ys k (piece_value d)) so_far ∙ get_or-take (length xs) all k (piece_value d) lt

  -- what holds of each piece holds of those that came
  pub yielded_hold : (P : PieceValue → Type 0) → length xs ≤ length all → All P all → All (λ piece. P (piece_value piece)) xs
  yielded_hold P le each k d lt = subst P (sym (value_at k d lt)) (each k (piece_value d) (omega arith))

  -- the piece at such an index came
  came : (e k : ℕ) (other : PieceValue) → k < length xs → k < length all → get_or all k other ≡ other → LiesIn e other
      → Any (λ piece. LiesIn e (piece_value piece)) xs
  came e k other lt within at lies =
      let there = element xs k lt in
      let is = sym (ap piece_value there.1) ∙ value_at k there.0 lt ∙ get_or_default all k (piece_value there.0) other within ∙ at in
      (k, there.0, lt, there.1, subst (LiesIn e) (sym is) lies)

  -- a piece that came has each EID of the interval that lies before the next one
  pub looked_before : (piece : Piece) (e : ℕ) → length xs < length all → piece_value piece ≡ get_or all (length xs) (piece_value piece) → first ≤ e
      → e < piece.first.value → Any (λ piece. LiesIn e (piece_value piece)) xs
  looked_before piece e lt is low before =
      let earlier = earlier_piece rows first last all (length xs) (piece_value piece) e are lt is low before in
      came e earlier.0 earlier.1 earlier.2 (let within = earlier.2 in omega arith) earlier.3 earlier.4

  -- once all came, one of them has each EID of the interval
  pub looked_at_all : (e : ℕ) → length xs ≡ length all → first ≤ e → e ≤ last → Any (λ piece. LiesIn e (piece_value piece)) xs
  looked_at_all e same low high =
      let some = (are.covering e).1 (low, high) in
      came e some.0 some.1 (let within = some.2 in omega arith) some.2 some.3 some.4

  -- what holds of each EID of the pieces that came holds of each EID of the interval before the next piece
  pub holds_before : (Q : ℕ → Type 0) → All (λ piece. (e : ℕ) → LiesIn e (piece_value piece) → Q e) xs → (piece : Piece) → length xs < length all
      → piece_value piece ≡ get_or all (length xs) (piece_value piece) → (e : ℕ) → first ≤ e → e < piece.first.value → Q e
  holds_before Q each piece lt is e low before =
      let found = seen (λ piece. (e : ℕ) → LiesIn e (piece_value piece) → Q e) (λ piece. LiesIn e (piece_value piece)) xs each (looked_before piece e lt is low before) in
      found.1 e found.2

  -- and once all came of each EID of the interval
  pub holds_throughout : (Q : ℕ → Type 0) → All (λ piece. (e : ℕ) → LiesIn e (piece_value piece) → Q e) xs → length xs ≡ length all
      → (e : ℕ) → first ≤ e → e ≤ last → Q e
  holds_throughout Q each same e low high =
      let found = seen (λ piece. (e : ℕ) → LiesIn e (piece_value piece) → Q e) (λ piece. LiesIn e (piece_value piece)) xs each (looked_at_all e same low high) in
      found.1 e found.2

-- a piece lies in the interval
pub inside_interval : (rows : List TableRow) (first last : ℕ) (all : List PieceValue) (index : ℕ) (piece : PieceValue) → ArePieces rows first last all
    → index < length all → piece ≡ get_or all index piece → (first ≤ piece.first) × (piece.first ≤ piece.last) × (piece.last ≤ last)
inside_interval rows first last all index piece are lt is =
    let filled = at_place (λ p. p.first ≤ p.last) all index piece are.filled lt is in
    let low = (are.covering piece.first).0 (index, piece, lt, sym is, (omega arith, filled)) in
    let high = (are.covering piece.last).0 (index, piece, lt, sym is, (filled, omega arith)) in
    (low.0, filled, high.1)
