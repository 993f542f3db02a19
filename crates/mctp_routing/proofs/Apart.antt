-- Rows that lie apart still do in another order, and in the order of their first endpoint IDs each lies below all later
-- ones.
use Rattle.std.{proofs.Common.{◌≡◌, ◌≢◌, ℕ, ◌+◌, ◌<◌, ◌≤◌, List, length, get_or, cond, refl, ap, ◌∙◌, inl, inr, arith}, proofs.Math.Dec.{eqb}, proofs.lemmas.Bool.Decides.{nat_tests, eqb_tells}, proofs.lemmas.Bool.{cases_lt}, specs.Prelude.{All, AllPairs}, specs.List.{swap}, specs.List.Sorted.{IsPermutation, IsNonDecreasingBy}, proofs.lemmas.List.Edits.{swapped_from_swap, length-swap}, proofs.lemmas.List.Sorted.{IsPermutation-keeps, IsPermutation-sym, All-permutation, Contains-permutation}}
use Rattle.mctp_routing.{specs.declared.row.TableRow.{TableRow}, specs.declared.row.Hop.{Hop}, specs.Rows.{AreApart, IsLawful, AreLawful, Routes, HasSameRoutes, LiesBelow, IsTable}}

-- the index in the list before a and b changed places
index : ℕ → ℕ → ℕ → ℕ
index a b m = cond (eqb m a) b (cond (eqb m b) a m)

places_apart : (a b i j : ℕ) → i ≢ j → index a b i ≢ index a b j
unfolding index
places_apart a b i j ne = grind (arith, nat_tests)

place_below : (a b m n : ℕ) → a < n → b < n → m < n → index a b m < n
unfolding index
place_below a b m n la lb lm = grind (arith, nat_tests)

place_was : {X : Type 0} (f g : ℕ → X) (a b m : ℕ) → g a ≡ f b → g b ≡ f a → ((m : ℕ) → (m ≡ a → ⊥) → (m ≡ b → ⊥) → g m ≡ f m) → g m ≡ f (index a b m)
unfolding index
place_was f g a b m at_a at_b other =
    elim (eqb_tells m a) [
      | inl same ↦ rw same.0 (ap g same.1 ∙ at_a)
      | inr no_a ↦ rw no_a.0 (elim (eqb_tells m b) [
        | inl same ↦ rw same.0 (ap g same.1 ∙ at_b)
        | inr no_b ↦ rw no_b.0 (other m no_a.1 no_b.1)
      ])
    ]

-- any two places of the list have rows that lie apart
All2 : List TableRow → Type 0
All2 rows = (i j : ℕ) (d : TableRow) → i ≢ j → i < length rows → j < length rows → AreApart (get_or rows i d) (get_or rows j d)

-- two rows lie apart either way round
pub turned : (row other : TableRow) → AreApart row other → AreApart other row
unfolding AreApart
turned row other apart e in_other in_row = apart e in_row in_other

to_all2 : (rows : List TableRow) → AllPairs AreApart rows → All2 rows
unfolding All2
to_all2 rows apart i j d ne li lj =
    elim (cases_lt i j) [
      | inl lt ↦ apart i j d lt lj
      | inr ge ↦ turned (get_or rows j d) (get_or rows i d) (apart j i d (omega arith) li)
    ]

from_all2 : (rows : List TableRow) → All2 rows → AllPairs AreApart rows
unfolding All2
from_all2 rows apart i j d lt lj = apart i j d (omega arith) (omega arith) lj

all2_swapped : (rows : List TableRow) (a b : ℕ) → a < length rows → b < length rows → All2 rows → All2 (swap rows a b)
unfolding All2
all2_swapped rows a b la lb apart i j d ne li lj =
    let s = swapped_from_swap rows (swap rows a b) a b d la lb refl in
    let was_i = place_was (λ k. get_or rows k d) (λ k. get_or (swap rows a b) k d) a b i s.0 s.1 s.2 in
    let was_j = place_was (λ k. get_or rows k d) (λ k. get_or (swap rows a b) k d) a b j s.0 s.1 s.2 in
    let same = length-swap rows a b in
    let below_i = place_below a b i (length rows) la lb (omega arith) in
    let below_j = place_below a b j (length rows) la lb (omega arith) in
    rw (was_i, was_j) (apart (index a b i) (index a b j) d (places_apart a b i j ne) below_i below_j)

-- rows that lie apart still do in another order
pub apart_moved : (rows others : List TableRow) → IsPermutation rows others → AllPairs AreApart rows → AllPairs AreApart others
apart_moved rows others same apart =
    from_all2 others (IsPermutation-keeps rows All2 (to_all2 rows apart) (λ l a b la lb h. all2_swapped l a b la lb h) others same)

-- what lies below a lawful row's end is a byte
pub ends_within : (row : TableRow) → IsLawful row → {e : ℕ} → e < row.first.value + row.size → e ≤ 255
ends_within row lawful lt =
    elim (cases_lt 255 (row.first.value + row.size)) [
      | inl past ↦ absurd (lawful.1 (inr past))
      | inr within ↦ omega arith
    ]

covers_first : (row : TableRow) → row.size ≢ 0 → row.first.value < row.first.value + row.size
covers_first row some = omega arith

-- of two lawful rows apart, the one that begins no higher lies below the other
pub below_other : (row other : TableRow) → IsLawful row → IsLawful other → AreApart row other → row.first.value ≤ other.first.value → LiesBelow row other
unfolding AreApart
below_other row other one two apart low =
    elim (cases_lt other.first.value (row.first.value + row.size)) [
      | inl lt ↦ absurd (apart other.first.value (low, lt, ends_within row one lt) (omega arith, covers_first other two.0, ends_within row one lt))
      | inr ge ↦ ge
    ]

-- lawful rows in the order of their first EIDs make a table
pub table_of : (rows others : List TableRow) → AreLawful rows → IsPermutation rows others → IsNonDecreasingBy (λ row. row.first.value) others → IsTable others
table_of rows others lawful same sorted =
    let each : All IsLawful others = All-permutation IsLawful rows others same lawful.each in
    let apart = apart_moved rows others same lawful.apart in
    record {
      each = each;
      ascending = λ i j d lt lj. below_other (get_or others i d) (get_or others j d) (each i d (omega arith)) (each j d lj) (apart i j d lt lj) (sorted i j d (omega arith) lj);
    }

along : (rows others : List TableRow) → IsPermutation rows others → (e : ℕ) (hop : Hop) → Routes rows e hop → Routes others e hop
along rows others same e hop (k, row, lt, is, routed) =
    let there = Contains-permutation rows others row same (k, lt, is) in
    (there.0, row, there.1, there.2, routed)

-- the order of rows doesn't change their routes
pub routes_moved : (rows others : List TableRow) → IsPermutation rows others → HasSameRoutes rows others
routes_moved rows others same e hop =
    (along rows others same e hop, along others rows (IsPermutation-sym rows others same) e hop)
