-- What is said of records holds of all records of the same values.
use Rattle.std.{proofs.Common.{◌≡◌, ℕ, suc, ◌+◌, List, [], length, map, Option, Some, None, sym, ap, ◌∙◌, subst, arith, inl, inr}, specs.Prelude.{slice_get}}
use Rattle.plan_values.{specs.declared.terminus.PlannedRecord.{PlannedRecord}, specs.NodeValues.{RecordValue, record_value}}
use Rattle.pdr_repository.specs.Records.{IsRecordOf}
use Rattle.net_tables.{specs.Routing.{OfItem}, specs.Repositories.{HasNewHandle, IsHandleAt, IsChained}}
use Rattle.net_rules.{specs.declared.certifying.chains.ChainFault.{ChainFault}, specs.declared.certifying.chains.ChainFault.TheVariants.{Missing, Doubled, Circle}, specs.Rules.{AtItem, AtNodeOrItem, AtItemOrEid}, specs.Locators.{IsEidLocator, HasOneByteAsEid}, specs.Circles.{IsLeastOnCircle}, specs.RecordChains.{HasNext, HasNewNext, IsFollowedBy, IsBadChain, ArePlaces}, specs.Certificates.{HavePlaces}, proofs.SameMoves.{Leads-same}}
use Rattle.net_check.proofs.SeenAlike.{as_many, there}

abbrev AreAlike : PlannedRecord → PlannedRecord → Type 0
AreAlike r s = record_value r ≡ record_value s

handle_alike : (r s : PlannedRecord) → AreAlike r s → r.handle ≡ s.handle
handle_alike r s alike = ap (λ (v : RecordValue). v.handle) alike

next_alike : (r s : PlannedRecord) → AreAlike r s → r.next ≡ s.next
next_alike r s alike = ap (λ (v : RecordValue). v.next) alike

pub spelled : (r s : PlannedRecord) → AreAlike r s → IsRecordOf r.handle r.bytes.items → IsRecordOf s.handle s.bytes.items
spelled r s alike is = (let P : RecordValue → Type 0 = λ v. IsRecordOf v.handle v.bytes in subst P alike is)

pub locator : (r s : PlannedRecord) → AreAlike r s → (tid : ℕ) (value : List ℕ) → IsEidLocator r.bytes.items tid value → IsEidLocator s.bytes.items tid value
locator r s alike tid value is = (let P : RecordValue → Type 0 = λ v. IsEidLocator v.bytes tid value in subst P alike is)

pub one_byte : (r s : PlannedRecord) → AreAlike r s → HasOneByteAsEid r → HasOneByteAsEid s
unfolding HasOneByteAsEid
one_byte r s alike has tid value is = has tid value (locator s r (sym alike) tid value is)

module _ (xs ys : List PlannedRecord) (same : map record_value xs ≡ map record_value ys) where
  -- a record of the other list stands here too
  here : (k : ℕ) (s : PlannedRecord) → slice_get ys k ≡ Some s → (r : PlannedRecord) × (slice_get xs k ≡ Some r) × AreAlike r s
  here = there record_value xs ys same

  beyond : (k : ℕ) (r : PlannedRecord) → slice_get xs k ≡ Some r → (s : PlannedRecord) × (slice_get ys k ≡ Some s) × AreAlike s r
  beyond = there record_value ys xs (sym same)

  long : length xs ≡ length ys
  long = as_many record_value xs ys same

  -- where a rule speaks
  of_item : (k : ℕ) (P Q : PlannedRecord → Type 0) → ((r s : PlannedRecord) → AreAlike r s → P r → Q s) → OfItem xs k P → OfItem ys k Q
  of_item k P Q over holds s is = (let r = here k s is in over r.0 s r.2 (holds r.0 r.1))

  pub at_item : (P Q : ℕ → PlannedRecord → Type 0) → ((j : ℕ) (r s : PlannedRecord) → AreAlike r s → P j r → Q j s) → (entry eid : Option ℕ) → AtItem xs P entry eid → AtItem ys Q entry eid
  at_item P Q over (Some i) None met = of_item i (P i) (Q i) (over i) met
  at_item P Q over (Some i) (Some e) met = tt
  at_item P Q over None eid met = tt

  pub at_node_or_item : (N M : Type 0) → (N → M) → (P Q : ℕ → PlannedRecord → Type 0) → ((j : ℕ) (r s : PlannedRecord) → AreAlike r s → P j r → Q j s) → (entry eid : Option ℕ)
      → AtNodeOrItem N xs P entry eid → AtNodeOrItem M ys Q entry eid
  at_node_or_item N M to P Q over None None met = to met
  at_node_or_item N M to P Q over None (Some e) met = tt
  at_node_or_item N M to P Q over (Some i) None met = of_item i (P i) (Q i) (over i) met
  at_node_or_item N M to P Q over (Some i) (Some e) met = tt

  pub at_item_or_eid : (P P' : PlannedRecord → Type 0) (Q Q' : PlannedRecord → ℕ → Type 0) → ((r s : PlannedRecord) → AreAlike r s → P r → P' s) → ((r s : PlannedRecord) (e : ℕ) → AreAlike r s → Q r e → Q' s e)
      → (entry eid : Option ℕ) → AtItemOrEid xs P Q entry eid → AtItemOrEid ys P' Q' entry eid
  at_item_or_eid P P' Q Q' over over' (Some i) None met = of_item i P P' over met
  at_item_or_eid P P' Q Q' over over' (Some i) (Some e) met = of_item i (λ r. Q r e) (λ s. Q' s e) (λ r s. over' r s e) met
  at_item_or_eid P P' Q Q' over over' None eid met = tt

  -- ---- handles and chains

  pub new_handle : (j : ℕ) (r s : PlannedRecord) → AreAlike r s → HasNewHandle xs j r → HasNewHandle ys j s
  new_handle j r s alike (some, new) = (
    λ zero. some (handle_alike r s alike ∙ zero),
    λ i other less is clash.
        let one = here i other is in
        new i one.0 less one.1 (handle_alike one.0 other one.2 ∙ (clash ∙ sym (handle_alike r s alike))),
  )

  handle_at : (places : List ℕ) (place handle : ℕ) → IsHandleAt xs places place handle → IsHandleAt ys places place handle
  handle_at places place handle (k, r, is, at, same_handle) = (let s = beyond k r is in (k, s.0, s.1, at, same_handle ∙ sym (handle_alike s.0 r s.2)))

  pub chained : (places : List ℕ) (j : ℕ) (r s : PlannedRecord) → AreAlike r s → IsChained xs places j r → IsChained ys places j s
  chained places j r s alike is = record {
    place = is.place;
    given = is.given;
    within = omega (arith, is.within, long);
    new = is.new;
    next = elim is.next [
      | inl at ↦ inl (let H : ℕ → Type 0 = IsHandleAt ys places (is.place + 1) in subst H (next_alike r s alike) (handle_at places (is.place + 1) r.next at))
      | inr (last, zero) ↦ inr (last ∙ long, sym (next_alike r s alike) ∙ zero)
    ];
  }

  pub are_places : (places : List ℕ) → ArePlaces xs places → ArePlaces ys places
  are_places places (as_long, each) = (as_long ∙ long, λ j s is. (let r = here j s is in chained places j r.0 s r.2 (each j r.0 r.1)))

  pub have_places : HavePlaces xs → HavePlaces ys
  have_places (places, are) = (places, are_places places are)

  has_next : (r s : PlannedRecord) → AreAlike r s → HasNext xs r → HasNext ys s
  has_next r s alike (inl zero) = inl (sym (next_alike r s alike) ∙ zero)
  has_next r s alike (inr (k, other, is, handle)) = (let one = beyond k other is in inr (k, one.0, one.1, sym (next_alike r s alike) ∙ (handle ∙ sym (handle_alike one.0 other one.2))))

  has_new_next : (j : ℕ) (r s : PlannedRecord) → AreAlike r s → HasNewNext xs j r → HasNewNext ys j s
  has_new_next j r s alike new i other less is clash =
      let one = here i other is in
      new i one.0 less one.1 (next_alike one.0 other one.2 ∙ (clash ∙ sym (next_alike r s alike)))

  pub follows : (j k : ℕ) → IsFollowedBy xs j k → IsFollowedBy ys j k
  follows j k (r, other, is, at, handle) =
      let s = beyond j r is in
      let t = beyond k other at in
      (s.0, t.0, s.1, t.1, next_alike s.0 r s.2 ∙ (handle ∙ sym (handle_alike t.0 other t.2)))

-- both ways
module _ (xs ys : List PlannedRecord) (same : map record_value xs ≡ map record_value ys) where
  nexts : (k : ℕ) → OfItem xs k (HasNext xs) → OfItem ys k (HasNext ys)
  nexts k holds = of_item xs ys same k (HasNext xs) (HasNext ys) (has_next xs ys same) holds

  new_nexts : (k : ℕ) → OfItem xs k (HasNewNext xs k) → OfItem ys k (HasNewNext ys k)
  new_nexts k holds = of_item xs ys same k (HasNewNext xs k) (HasNewNext ys k) (has_new_next xs ys same k) holds

no_next : (xs ys : List PlannedRecord) → map record_value xs ≡ map record_value ys → (k : ℕ) → ¬ OfItem xs k (HasNext xs) → ¬ OfItem ys k (HasNext ys)
no_next xs ys same k none holds = none (nexts ys xs (sym same) k holds)

no_new_next : (xs ys : List PlannedRecord) → map record_value xs ≡ map record_value ys → (k : ℕ) → ¬ OfItem xs k (HasNewNext xs k) → ¬ OfItem ys k (HasNewNext ys k)
no_new_next xs ys same k none holds = none (new_nexts ys xs (sym same) k holds)

least_on_circle : (Move Other : ℕ → ℕ → Type 0) → ((n m : ℕ) → Move n m → Other n m) → ((n m : ℕ) → Other n m → Move n m) → (first : ℕ) → IsLeastOnCircle Move first → IsLeastOnCircle Other first
least_on_circle Move Other to from first ((k, way), least) =
    ((k, Leads-same Move Other to first (suc k) first way), λ n (l, back). least n (l, Leads-same Other Move from n (suc l) n back))

pub bad_chain : (xs ys : List PlannedRecord) → map record_value xs ≡ map record_value ys → (kind : ChainFault) (j : ℕ) → IsBadChain xs kind j → IsBadChain ys kind j
bad_chain xs ys same Missing j (none, first) = (no_next xs ys same j none, λ k less. nexts xs ys same k (first k less))
bad_chain xs ys same Doubled j (all, (none, first)) = (λ k. nexts xs ys same k (all k), (no_new_next xs ys same j none, λ k less. new_nexts xs ys same k (first k less)))
bad_chain xs ys same Circle j (all, apart, circle) = (
  λ k. nexts xs ys same k (all k),
  λ k. new_nexts xs ys same k (apart k),
  least_on_circle (IsFollowedBy xs) (IsFollowedBy ys) (follows xs ys same) (follows ys xs (sym same)) j circle,
)
