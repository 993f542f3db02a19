-- From the loops of the searches, and what they ask of a node or a record, to the rules' sentences.
use Rattle.std.{proofs.Common.{◌≡◌, ℕ, ◌<◌, ◌≤◌, List, [], ◌∷◌, length, get_or, Option, Some, None, refl, subst, arith}, specs.Prelude.{slice_get, option_map}, proofs.lemmas.Option.{same_Some, slice_get_read, slice_get_within}}
use Rattle.plan_values.{specs.declared.plan.Plan.{Plan}, specs.declared.nodes.Node.{Node}, specs.declared.terminus.PlannedTerminus.{PlannedTerminus}}
use Rattle.net_rules.{specs.declared.spot.Spot.{Spot}, specs.Locators.{IsEidLocator, HasOneByteAsEid, IsHeldByTerminus, LocatesTerminus}, specs.Rules.{AtNodeOrEid, AtItemOrEid}, specs.Search.{IsFirstSpot}, proofs.OtherSpots.{node_and_eids_meet, items_and_eids_meet, item_or_eid_fails}}
use Rattle.net_tables.{specs.Routing.{Holds, OfItem}, specs.Repositories.{terminus_of}, proofs.RowSearches.{of_all_items}}
use Rattle.plan_values.specs.declared.terminus.PlannedRecord as listed

-- what a number was told of
some_of_map : {A : Type 0} (f : A → ℕ) (o : Option A) (e : ℕ) → option_map f o ≡ Some e → (a : A) × (o ≡ Some a)
some_of_map f None e is = absurd (cc)
some_of_map f (Some a) e is = (a, refl)

-- a terminus of the TID
some_terminus : (o : Option PlannedTerminus) (tid : ℕ) → option_map (λ t. t.tid) o ≡ Some tid → (t : PlannedTerminus) × (o ≡ Some t) × (t.tid ≡ tid)
some_terminus None tid is = absurd (cc)
some_terminus (Some t) tid is = (t, refl, same_Some t.tid tid is)

tid_of_some : (o : Option PlannedTerminus) (t : PlannedTerminus) (tid : ℕ) → o ≡ Some t → t.tid ≡ tid → option_map (λ t. t.tid) o ≡ Some tid
tid_of_some o t tid at same = rw at (rw same refl)

pub held_by : (plan : Plan) (n tid e : ℕ) → Holds plan n e → option_map (λ t. t.tid) (terminus_of plan n) ≡ Some tid → IsHeldByTerminus plan tid e
unfolding IsHeldByTerminus
held_by plan n tid e holds is = let (t, at, same) = some_terminus (terminus_of plan n) tid is in (n, holds, t, at, same)

pub not_held_by : (plan : Plan) (count tid e : ℕ) → length plan.nodes.items ≤ count
    → ((n : ℕ) → n < count → ¬ (Holds plan n e × (option_map (λ t. t.tid) (terminus_of plan n) ≡ Some tid))) → ¬ IsHeldByTerminus plan tid e
unfolding IsHeldByTerminus
not_held_by plan count tid e end none (n, holds, t, at, same) =
    let node = some_of_map (λ (node : Node). node.eid.value) (slice_get plan.nodes.items n) e holds in
    let within : n < length plan.nodes.items = slice_get_within plan.nodes.items n node.0 node.1 in
    none n (omega arith) (holds, tid_of_some (terminus_of plan n) t tid at same)

pub held_by_nobody : (plan : Plan) (tid e : ℕ) → ((n : ℕ) → ¬ Holds plan n e) → ¬ IsHeldByTerminus plan tid e
unfolding IsHeldByTerminus
held_by_nobody plan tid e none (n, holds, t, at, same) = none n holds

-- demands that come to the same have one first spot
same_spot : (D E : Option ℕ → Option ℕ → Type 0) → ((entry eid : Option ℕ) → D entry eid → E entry eid) → ((entry eid : Option ℕ) → E entry eid → D entry eid)
    → (found : Option Spot) → IsFirstSpot D found → IsFirstSpot E found
same_spot D E to from None all = λ entry eid. to entry eid (all entry eid)
same_spot D E to from (Some spot) first = (λ e. first.0 (from _ _ e), λ entry eid before. to entry eid (first.1 entry eid before))

at_node_or_eid : (P R : Type 0) (Q S : ℕ → Type 0) → (P → R) → ((e : ℕ) → Q e → S e) → (entry eid : Option ℕ) → AtNodeOrEid P Q entry eid → AtNodeOrEid R S entry eid
at_node_or_eid P R Q S p q None None h = p h
at_node_or_eid P R Q S p q None (Some e) h = q e h
at_node_or_eid P R Q S p q (Some i) eid h = tt

-- what a locator's value has to be, and what the record has to
pub locator_spot : (plan : Plan) (r : listed.PlannedRecord) (tid : ℕ) (value : List ℕ) (found : Option Spot) → IsEidLocator r.bytes.items tid value
    → ((t : ℕ) (v : List ℕ) → IsEidLocator r.bytes.items t v → (tid ≡ t) × (value ≡ v))
    → IsFirstSpot (AtNodeOrEid (length value ≡ 1) (λ e. value ≡ e ∷ [] → IsHeldByTerminus plan tid e)) found
    → IsFirstSpot (AtNodeOrEid (HasOneByteAsEid r) (LocatesTerminus plan r)) found
unfolding HasOneByteAsEid LocatesTerminus
locator_spot plan r tid value found is one first =
    let P : Type 0 = length value ≡ 1 in
    let Q : ℕ → Type 0 = λ e. value ≡ e ∷ [] → IsHeldByTerminus plan tid e in
    let to_record : P → HasOneByteAsEid r = λ long t v other. subst (λ (bytes : List ℕ). length bytes ≡ 1) (one t v other).1 long in
    let to_value : HasOneByteAsEid r → P = λ h. h tid value is in
    let to_records : (e : ℕ) → Q e → LocatesTerminus plan r e = λ e held t other.
    let same = one t (e ∷ []) other in
    subst (λ (n : ℕ). IsHeldByTerminus plan n e) same.0 (held same.1) in
    let to_values : (e : ℕ) → LocatesTerminus plan r e → Q e = λ e held same. held tid (subst (λ (bytes : List ℕ). IsEidLocator r.bytes.items tid bytes) same is) in
    same_spot (AtNodeOrEid P Q) (AtNodeOrEid (HasOneByteAsEid r) (LocatesTerminus plan r))
    (at_node_or_eid P (HasOneByteAsEid r) Q (LocatesTerminus plan r) to_record to_records)
    (at_node_or_eid (HasOneByteAsEid r) P (LocatesTerminus plan r) Q to_value to_values) found first

-- a record that is no such locator
pub no_locator_spot : (plan : Plan) (r : listed.PlannedRecord) → ((t : ℕ) (v : List ℕ) → ¬ IsEidLocator r.bytes.items t v) → IsFirstSpot (AtNodeOrEid (HasOneByteAsEid r) (LocatesTerminus plan r)) None
unfolding HasOneByteAsEid LocatesTerminus
no_locator_spot plan r none =
    node_and_eids_meet (HasOneByteAsEid r) (LocatesTerminus plan r) (λ t v is. absurd (none t v is)) (λ e t is. absurd (none t (e ∷ []) is))

-- the first item that fails, and no item, whichever list was searched
pub found_item : {A : Type 0} (items others : List A) (i : ℕ) (item : A) (spot : Spot) (P : A → Type 0) (Q : A → ℕ → Type 0) → others ≡ items → i < length others
    → item ≡ get_or others i item → ((k : ℕ) → k < i → OfItem others k (λ item. P item × ((e : ℕ) → Q item e))) → IsFirstSpot (AtNodeOrEid (P item) (Q item)) (Some spot)
    → IsFirstSpot (AtItemOrEid items P Q) (Some (record { entry = Some i; eid = spot.eid }))
found_item {A} items others i item spot P Q same within is earlier found =
    let R : List A → Type 0 = λ xs. IsFirstSpot (AtItemOrEid xs P Q) (Some (record { entry = Some i; eid = spot.eid })) in
    subst R same (item_or_eid_fails others i item spot P Q (slice_get_read others (length others) i item refl within is) earlier found)

pub found_no_item : {A : Type 0} (items others : List A) (n : ℕ) (P : A → Type 0) (Q : A → ℕ → Type 0) → others ≡ items → length others ≤ n
    → ((k : ℕ) → k < n → OfItem others k (λ item. P item × ((e : ℕ) → Q item e))) → IsFirstSpot (AtItemOrEid items P Q) None
found_no_item {A} items others n P Q same end all =
    let R : List A → Type 0 = λ xs. IsFirstSpot (AtItemOrEid xs P Q) None in
    subst R same (items_and_eids_meet others P Q (of_all_items others n (λ item. P item × ((e : ℕ) → Q item e)) end all))
