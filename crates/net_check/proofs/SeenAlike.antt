-- Lists and options whose items are seen as the same.
use Rattle.std.{proofs.Common.{◌≡◌, ℕ, List, [], ◌∷◌, length, map, Bool, ◌||◌, Option, Some, None, refl, sym, ap, ◌∙◌, inl, inr}, specs.Prelude.{slice_get, option_map, option_and_then, find}, specs.List.{list_any}, proofs.lemmas.Bool.{cases_Bool}, proofs.lemmas.List.{length-map}, proofs.lemmas.Option.{same_Some, none-some, slice_get-map}}

module _ {X V : Type 0} (see : X → V) where
  -- what is read of what is seen is the same
  pub read_alike : {Z : Type 0} (f : V → Z) (o p : Option X) → option_map see o ≡ option_map see p → option_map (λ x. f (see x)) o ≡ option_map (λ x. f (see x)) p
  read_alike f None None same = refl
  read_alike f None (Some y) same = absurd (none-some (see y) same)
  read_alike f (Some x) None same = absurd (none-some (see x) (sym same))
  read_alike f (Some x) (Some y) same = ap (option_map f) same

  pub then_alike : {Z : Type 0} (f : V → Option Z) (o p : Option X) → option_map see o ≡ option_map see p → option_and_then (λ x. f (see x)) o ≡ option_and_then (λ x. f (see x)) p
  then_alike f None None same = refl
  then_alike f None (Some y) same = absurd (none-some (see y) same)
  then_alike f (Some x) None same = absurd (none-some (see x) (sym same))
  then_alike f (Some x) (Some y) same = ap (option_and_then f) same

  pub as_many : (xs ys : List X) → map see xs ≡ map see ys → length xs ≡ length ys
  as_many xs ys same = sym (length-map xs see) ∙ (ap length same ∙ length-map ys see)

  pub at_alike : (xs ys : List X) → map see xs ≡ map see ys → (k : ℕ) → option_map see (slice_get xs k) ≡ option_map see (slice_get ys k)
  at_alike xs ys same k = sym (slice_get-map see xs k) ∙ (ap (λ zs. slice_get zs k) same ∙ slice_get-map see ys k)

  -- what stands at a place of the one stands there in the other, as it is seen
  pub there : (xs ys : List X) → map see xs ≡ map see ys → (k : ℕ) (y : X) → slice_get ys k ≡ Some y → (x : X) × (slice_get xs k ≡ Some x) × (see x ≡ see y)
  there xs ys same k y is = by (slice_get xs k) (slice_get ys k) (at_alike xs ys same k) is
    where
      by : (o p : Option X) → option_map see o ≡ option_map see p → p ≡ Some y → (x : X) × (o ≡ Some x) × (see x ≡ see y)
      by o None alike is = absurd (none-some y is)
      by None (Some z) alike is = absurd (none-some (see z) alike)
      by (Some x) (Some z) alike is = (x, refl, same_Some (see x) (see z) alike ∙ ap see (same_Some z y is))

  found_seen : (test : V → Bool) (xs : List X) → option_map see (find (λ x. test (see x)) xs) ≡ find test (map see xs)
  found_seen test [] = refl
  found_seen test (x ∷ xs) = elim (cases_Bool (test (see x))) [ inl passes ↦ rw passes refl | inr fails ↦ rw fails (found_seen test xs) ]

  pub found_alike : (test : V → Bool) (xs ys : List X) → map see xs ≡ map see ys → option_map see (find (λ x. test (see x)) xs) ≡ option_map see (find (λ x. test (see x)) ys)
  found_alike test xs ys same = found_seen test xs ∙ (ap (find test) same ∙ sym (found_seen test ys))

  any_seen : (test : V → Bool) (xs : List X) → list_any (λ x. test (see x)) xs ≡ list_any test (map see xs)
  any_seen test [] = refl
  any_seen test (x ∷ xs) = ap (λ b. test (see x) || b) (any_seen test xs)

  pub any_alike : (test : V → Bool) (xs ys : List X) → map see xs ≡ map see ys → list_any (λ x. test (see x)) xs ≡ list_any (λ x. test (see x)) ys
  any_alike test xs ys same = any_seen test xs ∙ (ap (list_any test) same ∙ sym (any_seen test ys))

  -- Where items that are seen as one are one.
  module _ (one : (x y : X) → see x ≡ see y → x ≡ y) where
    pub one_option : (o p : Option X) → option_map see o ≡ option_map see p → o ≡ p
    one_option None None same = refl
    one_option None (Some y) same = absurd (none-some (see y) same)
    one_option (Some x) None same = absurd (none-some (see x) (sym same))
    one_option (Some x) (Some y) same = ap Some (one x y (same_Some (see x) (see y) same))

    pub one_list : (xs ys : List X) → map see xs ≡ map see ys → xs ≡ ys
    one_list [] [] same = refl
    one_list [] (y ∷ ys) same = cc
    one_list (x ∷ xs) [] same = cc
    one_list (x ∷ xs) (y ∷ ys) same =
        let first : see x ≡ see y = cc in
        let rest : map see xs ≡ map see ys = cc in
        λ i. one x y first i ∷ one_list xs ys rest i
