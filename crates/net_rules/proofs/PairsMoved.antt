-- Rows of which no two share an endpoint ID, in another order.
use Rattle.std.{proofs.Common.{◌≡◌, ◌≢◌, ℕ, ◌<◌, List, length, get_or, cond, Some, refl, ap, ◌∙◌, subst, inl, inr, arith, take}, specs.Prelude.{slice_get}, proofs.Math.Dec.{eqb}, proofs.lemmas.Bool.Decides.{nat_tests, eqb_tells}, proofs.lemmas.Bool.{cases_lt}, specs.List.{swap}, specs.List.Sorted.{IsPermutation}, proofs.lemmas.List.{get_or-take, length-take-le}, proofs.lemmas.List.Edits.{swapped_from_swap, length-swap}, proofs.lemmas.List.Sorted.{IsPermutation-keeps}, proofs.lemmas.Option.{slice_get_within, slice_get-get_or, get_or_from_slice_get}}
use Rattle.plan_values.specs.declared.nodes.Row.{Row}
use Rattle.net_tables.{specs.Routing.{OfItem}, specs.Rows.{AreApart, IsApartFromEarlier}}
use Rattle.net_rules.specs.Spans.{PairsApart}

-- the index in the list before a and b changed places
index : ℕ → ℕ → ℕ → ℕ
index a b m = cond (eqb m a) b (cond (eqb m b) a m)

places_apart : (a b i j : ℕ) → i ≢ j → index a b i ≢ index a b j
unfolding index
places_apart a b i j ne = grind (arith, nat_tests)

place_below : (a b m n : ℕ) → a < n → b < n → m < n → index a b m < n
unfolding index
place_below a b m n la lb lm = grind (arith, nat_tests)

place_was : {X : Type 0} (f g : ℕ → X) (a b m : ℕ) → g a ≡ f b → g b ≡ f a → ((m : ℕ) → (m ≡ a → ⊥) → (m ≡ b → ⊥) → g m ≡ f m) → g m ≡ f (index a b m)
unfolding index
place_was f g a b m at_a at_b other =
    elim (eqb_tells m a) [
      | inl same ↦ rw same.0 (ap g same.1 ∙ at_a)
      | inr no_a ↦ rw no_a.0 (elim (eqb_tells m b) [
        | inl same ↦ rw same.0 (ap g same.1 ∙ at_b)
        | inr no_b ↦ rw no_b.0 (other m no_a.1 no_b.1)
      ])
    ]

-- any two places of the list have rows that lie apart
All2 : List Row → Type 0
All2 rows = (i j : ℕ) (d : Row) → i ≢ j → i < length rows → j < length rows → AreApart (get_or rows i d) (get_or rows j d)

-- two rows lie apart either way round
turned : (row other : Row) → AreApart row other → AreApart other row
unfolding AreApart
turned row other apart e in_other in_row = apart e in_row in_other

to_all2 : (rows : List Row) → PairsApart rows → All2 rows
unfolding All2
to_all2 rows apart i j d ne li lj =
    let one = slice_get-get_or rows i d li in
    let other = slice_get-get_or rows j d lj in
    elim (cases_lt i j) [
      | inl lt ↦ apart i j (get_or rows i d) (get_or rows j d) lt one other
      | inr ge ↦ turned (get_or rows j d) (get_or rows i d) (apart j i (get_or rows j d) (get_or rows i d) (omega arith) other one)
    ]

from_all2 : (rows : List Row) → All2 rows → PairsApart rows
unfolding All2
from_all2 rows apart i j one other lt is is' =
    let within = slice_get_within rows j other is' in
    let P : Row → Type 0 = λ x. AreApart x (get_or rows j one) in
    let Q : Row → Type 0 = λ x. AreApart one x in
    subst Q (get_or_from_slice_get rows j other one is') (subst P (get_or_from_slice_get rows i one one is) (apart i j one (omega arith) (omega arith) within))

all2_swapped : (rows : List Row) (a b : ℕ) → a < length rows → b < length rows → All2 rows → All2 (swap rows a b)
unfolding All2
all2_swapped rows a b la lb apart i j d ne li lj =
    let s = swapped_from_swap rows (swap rows a b) a b d la lb refl in
    let was_i = place_was (λ k. get_or rows k d) (λ k. get_or (swap rows a b) k d) a b i s.0 s.1 s.2 in
    let was_j = place_was (λ k. get_or rows k d) (λ k. get_or (swap rows a b) k d) a b j s.0 s.1 s.2 in
    let same = length-swap rows a b in
    let below_i = place_below a b i (length rows) la lb (omega arith) in
    let below_j = place_below a b j (length rows) la lb (omega arith) in
    rw (was_i, was_j) (apart (index a b i) (index a b j) d (places_apart a b i j ne) below_i below_j)

pub pairs_moved : (rows others : List Row) → IsPermutation rows others → PairsApart rows → PairsApart others
pairs_moved rows others same apart =
    from_all2 others (IsPermutation-keeps rows All2 (to_all2 rows apart) (λ l a b la lb h. all2_swapped l a b la lb h) others same)

-- then each lies apart from those before it
pub apart_from_earlier : (rows : List Row) → PairsApart rows → (r : ℕ) → OfItem rows r (IsApartFromEarlier rows r)
unfolding IsApartFromEarlier
apart_from_earlier rows apart r row is k d lt =
    let inside = slice_get_within rows r row is in
    let long = length-take-le r rows (omega arith) in
    let less : k < r = omega (arith, long, lt) in
    let there = slice_get-get_or rows k d (omega arith) in
    let same : get_or (take r rows) k d ≡ get_or rows k d = get_or-take r rows k d less in
    rw same (turned (get_or rows k d) row (apart k r (get_or rows k d) row less there is))
