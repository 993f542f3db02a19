-- From the first failure of a search to the first spot of a rule that speaks alone and at endpoint IDs.
use Rattle.std.{proofs.Common.{◌≡◌, ℕ, ◌<◌, List, Option, Some, None, sym, ◌∙◌, subst, refl, inl, inr, arith}, specs.Prelude.{slice_get}, proofs.lemmas.Option.{same_Some}}
use Rattle.net_rules.{specs.declared.spot.Spot.{Spot}, specs.Rules.{AtNodeOrEid, AtItemOrEid}, specs.Search.{IsFirstSpot, SpotComesBefore}}
use Rattle.net_tables.specs.Routing.{OfItem, eid_number}

-- at the node alone, or at each EID
pub node_and_eids_meet : (P : Type 0) (Q : ℕ → Type 0) → P → ((e : ℕ) → Q e) → IsFirstSpot (AtNodeOrEid P Q) None
node_and_eids_meet P Q p q None None = p
node_and_eids_meet P Q p q None (Some e) = q e
node_and_eids_meet P Q p q (Some i) eid = tt

-- at each item of a list, alone or at each EID
pub items_and_eids_meet : {A : Type 0} (items : List A) (P : A → Type 0) (Q : A → ℕ → Type 0)
    → ((k : ℕ) → OfItem items k (λ item. P item × ((e : ℕ) → Q item e))) → IsFirstSpot (AtItemOrEid items P Q) None
items_and_eids_meet items P Q all None eid = tt
items_and_eids_meet items P Q all (Some i) None = λ item is. (all i item is).0
items_and_eids_meet items P Q all (Some i) (Some e) = λ item is. (all i item is).1 e

-- two items at one place are one
same_item : {A : Type 0} (items : List A) (i j : ℕ) (item other : A) → slice_get items i ≡ Some item → slice_get items j ≡ Some other → j ≡ i → item ≡ other
same_item items i j item other at is here =
    let R : ℕ → Type 0 = λ k. slice_get items k ≡ Some other in
    same_Some item other (sym at ∙ subst R here is)

-- what meets everywhere at an item
pub meets_everywhere : (P : Type 0) (Q : ℕ → Type 0) → IsFirstSpot (AtNodeOrEid P Q) None → P × ((e : ℕ) → Q e)
meets_everywhere P Q all = (all None None, λ e. all None (Some e))

-- the first item at which the demand isn't met, and where at the item
pub item_or_eid_fails : {A : Type 0} (items : List A) (i : ℕ) (item : A) (spot : Spot) (P : A → Type 0) (Q : A → ℕ → Type 0)
    → slice_get items i ≡ Some item → ((k : ℕ) → k < i → OfItem items k (λ item. P item × ((e : ℕ) → Q item e)))
    → IsFirstSpot (AtNodeOrEid (P item) (Q item)) (Some spot) → IsFirstSpot (AtItemOrEid items P Q) (Some (record { entry = Some i; eid = spot.eid }))
item_or_eid_fails {A} items i item spot P Q at earlier found = (
  there_fails items i item P Q at spot.entry (eid_number spot.eid) found.0,
  λ entry eid before.
      before_meets items i item P Q at earlier spot.entry (eid_number spot.eid) found.0 found.1 entry eid before,
)
  where
    there_fails : (items : List A) (i : ℕ) (item : A) (P : A → Type 0) (Q : A → ℕ → Type 0) → slice_get items i ≡ Some item → (entry eid : Option ℕ)
        → ¬ AtNodeOrEid (P item) (Q item) entry eid → ¬ AtItemOrEid items P Q (Some i) eid
    there_fails items i item P Q at None None not = λ h. not (h item at)
    there_fails items i item P Q at None (Some e) not = λ h. not (h item at)
    there_fails items i item P Q at (Some k) eid not = λ h. not tt

    before_meets : (items : List A) (i : ℕ) (item : A) (P : A → Type 0) (Q : A → ℕ → Type 0) → slice_get items i ≡ Some item
        → ((k : ℕ) → k < i → OfItem items k (λ item. P item × ((e : ℕ) → Q item e))) → (place number : Option ℕ) → ¬ AtNodeOrEid (P item) (Q item) place number
        → ((entry eid : Option ℕ) → SpotComesBefore entry eid place number → AtNodeOrEid (P item) (Q item) entry eid)
        → (entry eid : Option ℕ) → SpotComesBefore entry eid (Some i) number → AtItemOrEid items P Q entry eid
    before_meets items i item P Q at earlier place number not first None eid before = tt
    before_meets items i item P Q at earlier (Some k) number not first (Some j) eid before = absurd (not tt)
    before_meets items i item P Q at earlier None number not first (Some j) None before = λ other is. elim before [
      | inl lt ↦ (earlier j (omega arith) other is).0
      | inr (same, rest) ↦
          (let here : j ≡ i = omega arith in
          let one : item ≡ other = same_item items i j item other at is here in
          subst P one (first None None (inr (refl, rest))))
    ]
    before_meets items i item P Q at earlier None number not first (Some j) (Some e) before = λ other is. elim before [
      | inl lt ↦ (earlier j (omega arith) other is).1 e
      | inr (same, rest) ↦
          (let here : j ≡ i = omega arith in
          let one : item ≡ other = same_item items i j item other at is here in
          let R : A → Type 0 = λ x. Q x e in
          subst R one (first None (Some e) (inr (refl, rest))))
    ]
