-- What is said of one item of a list.
use Rattle.std.{proofs.Common.{◌≡◌, ◌≢◌, ℕ, ◌+◌, ◌<◌, ◌≤◌, List, length, get_or, Some, None, refl, sym, ◌∙◌, subst, arith, ◌⊎◌}, specs.Prelude.{slice_get}, proofs.lemmas.Option.{same_Some, slice_get_read, slice_get_within}}
use Rattle.net_tables.{specs.Routing.{OfItem}, specs.Repositories.{IsHandleAt, IsChained}}
use Rattle.plan_values.specs.declared.terminus.PlannedRecord as listed

-- of the item at an index of the list, whichever list was looked at
pub of_read : {A : Type 0} (items others : List A) (i : ℕ) (item : A) (P : List A → A → Type 0) → items ≡ others → i < length items → item ≡ get_or items i item
    → (P items item → OfItem others i (P others)) × (OfItem others i (P others) → P items item)
of_read {A} items others i item P same within is =
    let at : slice_get items i ≡ Some item = slice_get_read items (length items) i item refl within is in
    let Q : List A → Type 0 = λ xs. OfItem xs i (P xs) in (
      λ p. subst Q same (λ (other : A) there. subst (P items) (same_Some item other (sym at ∙ there)) p),
      λ of. subst Q (sym same) of item at,
    )

-- of no item, past the list
pub of_nothing : {A : Type 0} (items others : List A) (i : ℕ) (P : A → Type 0) → items ≡ others → length items ≤ i → OfItem others i P
of_nothing {A} items others i P same past =
    let Q : List A → Type 0 = λ xs. OfItem xs i P in
    subst Q same (λ (other : A) there. absurd (let within = slice_get_within items i other there in omega (arith, within)))

-- a record that is chained, by its place
pub chained_by : (records : List listed.PlannedRecord) (places : List ℕ) (j place : ℕ) (r : listed.PlannedRecord) → slice_get places j ≡ Some place → place < length records
    → ((i : ℕ) → i < j → slice_get places i ≢ Some place) → IsHandleAt records places (place + 1) r.next ⊎ ((place + 1 ≡ length records) × (r.next ≡ 0))
    → IsChained records places j r
chained_by records places j place r given within new next = record { place = place; given = given; within = within; new = new; next = next }

pub place_of_chained : (records : List listed.PlannedRecord) (places : List ℕ) (j place : ℕ) (r : listed.PlannedRecord) → slice_get places j ≡ Some place → IsChained records places j r
    → (place < length records) × ((i : ℕ) → i < j → slice_get places i ≢ Some place) × (IsHandleAt records places (place + 1) r.next ⊎ ((place + 1 ≡ length records) × (r.next ≡ 0)))
place_of_chained records places j place r given chained =
    let same : chained.place ≡ place = same_Some chained.place place (sym chained.given ∙ given) in
    let P : ℕ → Type 0 = λ p. (p < length records) × ((i : ℕ) → i < j → slice_get places i ≢ Some p) × (IsHandleAt records places (p + 1) r.next ⊎ ((p + 1 ≡ length records) × (r.next ≡ 0))) in
    subst P same (chained.within, chained.new, chained.next)

pub unchained : (records : List listed.PlannedRecord) (places : List ℕ) (j : ℕ) (r : listed.PlannedRecord) → slice_get places j ≡ None → ¬ IsChained records places j r
unchained records places j r none chained = let given = chained.given in cc
