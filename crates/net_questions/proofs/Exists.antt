-- Searches for a place, or for an item of a list.
use Rattle.std.{proofs.Common.{◌≡◌, ℕ, ◌+◌, ◌<◌, ◌≤◌, List, length, get_or, Option, Some, None, Bool, IsTrue, true, false, refl, sym, ◌∙◌, subst, arith, below_more}, specs.Prelude.{◌↔◌, slice_get}, proofs.lemmas.Option.{slice_get_read, slice_get_within, get_or_from_slice_get, same_Some, none-some}}
use Rattle.net_tables.specs.Routing.{OfItem}

pub found : (P : ℕ → Type 0) (k : ℕ) → P k → IsTrue true ↔ ((k : ℕ) × P k)
found P k p = (λ _. (k, p), λ _. refl)

pub not_found : (P : ℕ → Type 0) (count i : ℕ) → count ≤ i → ((k : ℕ) → P k → k < count) → ((k : ℕ) → k < i → ¬ P k) → IsTrue false ↔ ((k : ℕ) × P k)
not_found P count i end within none = (λ h. absurd (cc h), λ (k, p). let lt = within k p in absurd (none k (omega (arith, lt)) p))

module _ {A : Type 0} (xs ys : List A) (same : xs ≡ ys) (Q : ℕ → A → Type 0) where
  pub found_item : (k : ℕ) (x : A) → k < length xs → x ≡ get_or xs k x → Q k x → IsTrue true ↔ ((k : ℕ) × (x : A) × (slice_get ys k ≡ Some x) × Q k x)
  found_item k x lt is q =
      let P : List A → Type 0 = λ zs. slice_get zs k ≡ Some x in
      (λ _. (k, x, subst P same (slice_get_read xs (length xs) k x refl lt is), q), λ _. refl)

  pub item_not_found : (i : ℕ) → length xs ≤ i → ((k : ℕ) → k < i → OfItem xs k (λ x. ¬ Q k x)) → IsTrue false ↔ ((k : ℕ) × (x : A) × (slice_get ys k ≡ Some x) × Q k x)
  item_not_found i end none = (
    λ h. absurd (cc h),
    λ (k, x, at, q). (
        let P : List A → Type 0 = λ zs. slice_get zs k ≡ Some x in
        let here = subst P (sym same) at in
        let lt = slice_get_within xs k x here in
        absurd (none k (omega (arith, lt)) x here q)),
  )

  -- one item more
  pub item_more : (n : ℕ) (item : A) → n < length xs → item ≡ get_or xs n item → ¬ Q n item → ((k : ℕ) → k < n → OfItem xs k (λ x. ¬ Q k x)) → (k : ℕ) → k < n + 1
      → OfItem xs k (λ x. ¬ Q k x)
  item_more n item lt is not below =
      let P : ℕ → Type 0 = λ k. OfItem xs k (λ x. ¬ Q k x) in
      below_more P n below (λ (other : A) at. subst (λ (y : A). ¬ Q n y) (is ∙ get_or_from_slice_get xs n other item at) not)

-- what is asked of a value, where it is there, and where it isn't
pub of_some : {A : Type 0} (o : Option A) (x : A) (Q : A → Type 0) (b : Bool) → Some x ≡ o → IsTrue b ↔ Q x → IsTrue b ↔ ((a : A) × (o ≡ Some a) × Q a)
of_some o x Q b is told = (λ h. (x, sym is, told.0 h), λ (a, at, q). told.1 (subst Q (sym (same_Some x a (is ∙ at))) q))

pub of_none : {A : Type 0} (o : Option A) (Q : A → Type 0) → None ≡ o → IsTrue false ↔ ((a : A) × (o ≡ Some a) × Q a)
of_none o Q is = (λ h. absurd (cc h), λ (a, at, q). absurd (none-some a (is ∙ at)))

-- what is asked of the only value of which something is so
pub of_only : {A : Type 0} (R : A → Type 0) (x : A) (P : A → Type 0) (b : Bool) → R x → ((a : A) → R a → x ≡ a) → IsTrue b ↔ P x → IsTrue b ↔ ((a : A) × R a × P a)
of_only R x P b is only told = (λ h. (x, is, told.0 h), λ (a, at, p). told.1 (subst P (sym (only a at)) p))

pub of_nobody : {A : Type 0} (R : A → Type 0) (P : A → Type 0) → ((a : A) → R a → ⊥) → IsTrue false ↔ ((a : A) × R a × P a)
of_nobody R P none = (λ h. absurd (cc h), λ (a, at, p). absurd (none a at))
