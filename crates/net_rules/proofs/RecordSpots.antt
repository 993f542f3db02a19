-- From the first failure of a search among the records of a node to the first spot of a rule.
use Rattle.std.{proofs.Common.{◌≡◌, ℕ, ◌<◌, List, Option, Some, None, sym, subst, inl, inr, arith}, specs.Prelude.{option_map}}
use Rattle.net_rules.{specs.declared.spot.Spot.{Spot}, specs.Rules.{AtItem, AtNodeOrItem}, specs.Search.{IsFirstSpot, SpotComesBefore, IsFirstItem}, proofs.Spots.{item_spot}}
use Rattle.plan_values.specs.declared.terminus.PlannedRecord.{PlannedRecord}

-- at the node
pub node_or_items_fail : {A : Type 0} (P : Type 0) (items : List A) (Q : ℕ → A → Type 0) → ¬ P → IsFirstSpot (AtNodeOrItem P items Q) (Some (record { entry = None; eid = None }))
node_or_items_fail {A} P items Q not_p = (not_p, λ entry eid before. nothing_earlier P items Q entry eid before)
  where
    nothing_earlier : (P : Type 0) (items : List A) (Q : ℕ → A → Type 0) (entry eid : Option ℕ) → SpotComesBefore entry eid None None → AtNodeOrItem P items Q entry eid
    nothing_earlier P items Q None None before = absurd (elim before [ inl lt ↦ omega arith | inr (same, rest) ↦ elim rest [ inl lt ↦ omega arith | inr (same, none) ↦ none ] ])
    nothing_earlier P items Q None (Some e) before = tt
    nothing_earlier P items Q (Some i) None before = absurd (elim before [ inl lt ↦ omega arith | inr (same, rest) ↦ omega arith ])
    nothing_earlier P items Q (Some i) (Some e) before = tt

-- at the first item that fails, where the node does not
pub node_or_item_spot : {A : Type 0} (P : Type 0) (items : List A) (Q : ℕ → A → Type 0) (found : Option ℕ) → P → IsFirstItem items Q found
    → IsFirstSpot (AtNodeOrItem P items Q) (option_map (λ i. record { entry = Some i; eid = None }) found)
node_or_item_spot {A} P items Q None p all = meets
  where
    meets : (entry eid : Option ℕ) → AtNodeOrItem P items Q entry eid
    meets None None = p
    meets None (Some e) = tt
    meets (Some i) None = all i
    meets (Some i) (Some e) = tt
node_or_item_spot {A} P items Q (Some i) p found = (found.0, earlier)
  where
    earlier : (entry eid : Option ℕ) → SpotComesBefore entry eid (Some i) None → AtNodeOrItem P items Q entry eid
    earlier None None before = p
    earlier None (Some e) before = tt
    earlier (Some k) None before =
        let lt : k < i = elim before [ inl lt ↦ omega arith | inr (_, rest) ↦ elim rest [ inl lt ↦ omega arith | inr (_, none) ↦ absurd none ] ] in
        found.1 k lt
    earlier (Some k) (Some e) before = tt

-- the spot of the record that was found, whichever list was searched
pub record_spot : (records searched : List PlannedRecord) (P : List PlannedRecord → ℕ → PlannedRecord → Type 0) (found : Option ℕ) (spot : Option Spot) → searched ≡ records → IsFirstItem searched (P searched) found
    → spot ≡ option_map (λ i. record { entry = Some i; eid = None }) found → IsFirstSpot (AtItem records (P records)) spot
record_spot records searched P found spot same first is =
    let F : List PlannedRecord → Type 0 = λ rs. IsFirstItem rs (P rs) found in
    let S : Option Spot → Type 0 = IsFirstSpot (AtItem records (P records)) in
    subst S (sym is) (item_spot records (P records) found (subst F same first))

pub node_or_record_spot : (P : Type 0) (records searched : List PlannedRecord) (Q : List PlannedRecord → ℕ → PlannedRecord → Type 0) (found : Option ℕ) (spot : Option Spot) → P → searched ≡ records
    → IsFirstItem searched (Q searched) found → spot ≡ option_map (λ i. record { entry = Some i; eid = None }) found → IsFirstSpot (AtNodeOrItem P records (Q records)) spot
node_or_record_spot P records searched Q found spot p same first is =
    let F : List PlannedRecord → Type 0 = λ rs. IsFirstItem rs (Q rs) found in
    let S : Option Spot → Type 0 = IsFirstSpot (AtNodeOrItem P records (Q records)) in
    subst S (sym is) (node_or_item_spot P records (Q records) found p (subst F same first))
