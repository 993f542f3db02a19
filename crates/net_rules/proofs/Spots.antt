-- From the first failure of a search to the first spot of a rule.
use Rattle.std.{proofs.Common.{ℕ, ◌<◌, List, Option, Some, None, inl, inr, arith}, specs.Prelude.{option_map}}
use Rattle.net_tables.specs.Routing.{OfItem}
use Rattle.net_rules.{specs.Rules.{AtItem}, specs.Search.{IsFirstSpot, SpotComesBefore, IsFirstItem}}

-- at each item of a list
pub items_meet : {A : Type 0} (items : List A) (P : ℕ → A → Type 0) → IsFirstItem items P None → IsFirstSpot (AtItem items P) None
items_meet items P all None eid = tt
items_meet items P all (Some i) None = all i
items_meet items P all (Some i) (Some e) = tt

pub item_fails : {A : Type 0} (items : List A) (i : ℕ) (P : ℕ → A → Type 0) → IsFirstItem items P (Some i)
    → IsFirstSpot (AtItem items P) (Some (record { entry = Some i; eid = None }))
item_fails {A} items i P found = (found.0, λ entry eid before. item_earlier items i P found.1 entry eid before)
  where
    item_earlier : (items : List A) (i : ℕ) (P : ℕ → A → Type 0) → ((k : ℕ) → k < i → OfItem items k (P k)) → (entry eid : Option ℕ) → SpotComesBefore entry eid (Some i) None → AtItem items P entry eid
    item_earlier items i P earlier None eid before = tt
    item_earlier items i P earlier (Some r) None before =
        let lt : r < i = elim before [ inl lt ↦ omega arith | inr (_, rest) ↦ elim rest [ inl lt ↦ omega arith | inr (_, none) ↦ absurd none ] ] in
        earlier r lt
    item_earlier items i P earlier (Some r) (Some e) before = tt

-- the spot of the first item that fails
pub item_spot : {A : Type 0} (items : List A) (P : ℕ → A → Type 0) (found : Option ℕ) → IsFirstItem items P found
    → IsFirstSpot (AtItem items P) (option_map (λ i. record { entry = Some i; eid = None }) found)
item_spot items P None h = items_meet items P h
item_spot items P (Some i) h = item_fails items i P h
