-- Interfaces that are one, and keys that are apart.
use Rattle.std.{proofs.Common.{◌≡◌, ℕ, true, false, true≢false, arith, refl, ap, sym, ◌∙◌}, specs.Ordering.{nat_cmp, is_eq, ordering_then}, specs.declared.cmp.Ordering.{Ordering}, specs.declared.cmp.Ordering.TheVariants.{Less, Equal, Greater}, specs.BTreeMap.{is_at}, proofs.lemmas.Map.Lookups.{exact_unsigned}, proofs.lemmas.Bool.Decides.{nat_tests}}
use Rattle.bus_captures.specs.declared.capture.Interface.{Interface}
use Rattle.heard_captures.specs.Places.{code_of, is_same, place_of, place_cmp, pair_of, pair_cmp}

pub same_numbers : (i j : Interface) → is_same i j ≡ true → (code_of i.number ≡ code_of j.number) × (code_of i.index ≡ code_of j.index)
same_numbers i j same =
    let first : code_of i.number ≡ code_of j.number = grind (arith, nat_tests) in
    let second : code_of i.index ≡ code_of j.index = grind (arith, nat_tests) in
    (first, second)

pub same_from : (i j : Interface) → code_of i.number ≡ code_of j.number → code_of i.index ≡ code_of j.index → is_same i j ≡ true
same_from i j first second = grind (arith, nat_tests)

pub same_pair : (i j : Interface) → is_same i j ≡ true → pair_of i ≡ pair_of j
same_pair i j same =
    let pair : ℕ → ℕ → ℕ × ℕ = λ x y. (x, y) in
    let (first, second) = same_numbers i j same in
    ap (λ x. pair x (code_of i.index)) first ∙ ap (λ y. pair (code_of j.number) y) second

pub same_self : (i : Interface) → is_same i i ≡ true
same_self i = same_from i i refl refl

then_equal : (a b : Ordering) → ordering_then a b ≡ Equal → (a ≡ Equal) × (b ≡ Equal)
then_equal Less b e = absurd (cc e)
then_equal Equal b e = (refl, e)
then_equal Greater b e = absurd (cc e)

not_equal : (o : Ordering) → (o ≡ Equal → ⊥) → is_eq o ≡ false
not_equal Less other = refl
not_equal Equal other = absurd (other refl)
not_equal Greater other = refl

-- another interface has another key
pub other_pair : (i j : Interface) → is_same i j ≡ false → is_at (pair_cmp (pair_of i)) (pair_of j) ≡ false
other_pair i j other = not_equal (pair_cmp (pair_of i) (pair_of j)) (λ e.
    let (first, second) = then_equal (nat_cmp (code_of i.number) (code_of j.number)) (nat_cmp (code_of i.index) (code_of j.index)) e in
    true≢false (sym (same_from i j (exact_unsigned (code_of i.number) (code_of j.number) first) (exact_unsigned (code_of i.index) (code_of j.index) second)) ∙ other))

-- and so has another interface or destination
pub other_place : (i j : Interface) (d e : ℕ) → (is_same i j ≡ true → d ≡ e → ⊥) → is_at (place_cmp (place_of i d)) (place_of j e) ≡ false
other_place i j d e other = not_equal (place_cmp (place_of i d) (place_of j e)) (λ same.
    let (both, third) = then_equal (ordering_then (nat_cmp (code_of i.number) (code_of j.number)) (nat_cmp (code_of i.index) (code_of j.index))) (nat_cmp d e) same in
    let (first, second) = then_equal (nat_cmp (code_of i.number) (code_of j.number)) (nat_cmp (code_of i.index) (code_of j.index)) both in
    other (same_from i j (exact_unsigned (code_of i.number) (code_of j.number) first) (exact_unsigned (code_of i.index) (code_of j.index) second)) (exact_unsigned d e third))

pub same_place : (i j : Interface) (d e : ℕ) → is_same i j ≡ true → d ≡ e → place_of i d ≡ place_of j e
same_place i j d e same to =
    let triple : ℕ → ℕ → ℕ → ℕ × ℕ × ℕ = λ x y z. (x, y, z) in
    let (first, second) = same_numbers i j same in
    ap (λ x. triple x (code_of i.index) d) first ∙ (ap (λ y. triple (code_of j.number) y d) second ∙ ap (λ z. triple (code_of j.number) (code_of j.index) z) to)
