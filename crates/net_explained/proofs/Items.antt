-- What is said of the item at a place of a list, where it is known, and where there is none.
use Rattle.std.{proofs.Common.{◌≡◌, ℕ, List, Bool, IsTrue, Some, None, sym, ◌∙◌, subst}, specs.Prelude.{◌↔◌, slice_get}, proofs.lemmas.Option.{same_Some, none-some}}
use Rattle.net_tables.specs.Routing.{OfItem}

pub of_item : {A : Type 0} (items : List A) (i : ℕ) (P : A → Type 0) (x : A) → Some x ≡ slice_get items i → P x → OfItem items i P
of_item items i P x is p = λ y at. subst P (same_Some x y (is ∙ at)) p

pub of_no_item : {A : Type 0} (items : List A) (i : ℕ) (P : A → Type 0) → None ≡ slice_get items i → OfItem items i P
of_no_item items i P is = λ y at. absurd (none-some y (is ∙ at))

pub not_of_item : {A : Type 0} (items : List A) (i : ℕ) (P : A → Type 0) (x : A) → Some x ≡ slice_get items i → ¬ P x → ¬ OfItem items i P
not_of_item items i P x is not all = not (all x (sym is))

-- such an item stands at the place
pub has_item : {A : Type 0} (items : List A) (i : ℕ) (P : A → Type 0) (x : A) → Some x ≡ slice_get items i → P x → (y : A) × (slice_get items i ≡ Some y) × P y
has_item items i P x is p = (x, sym is, p)

pub item_has : {A : Type 0} (items : List A) (i : ℕ) (P : A → Type 0) (x : A) → Some x ≡ slice_get items i → (y : A) × (slice_get items i ≡ Some y) × P y → P x
item_has items i P x is (y, at, p) = subst P (sym (same_Some x y (is ∙ at))) p

-- what is asked of the item, where it is there, and where it isn't
pub item_tells : {A : Type 0} (items : List A) (i : ℕ) (P : A → Type 0) (x : A) (b : Bool) → Some x ≡ slice_get items i → IsTrue b ↔ P x → IsTrue b ↔ ((y : A) × (slice_get items i ≡ Some y) × P y)
item_tells items i P x b is told = (λ h. has_item items i P x is (told.0 h), λ has. told.1 (item_has items i P x is has))
