-- The index of a network's walkers, as they begin and change.
use Rattle.std.{proofs.Common.{◌≡◌, ◌≢◌, ◌↔◌, ℕ, ◌<◌, List, [], ◌∷◌, ◌++◌, length, All, get_or, Bool, IsTrue, true, false, true≢false, is_some, MatchOption, Option, Some, None, refl, sym, ◌∙◌, ap, subst, inl, inr}, specs.Prelude.{slice_get, slice_set, Any}, specs.Ordering.{nat_cmp, is_eq, ordering_then}, specs.declared.cmp.Ordering.{Ordering}, specs.declared.cmp.Ordering.TheVariants.{Less, Equal, Greater}, specs.BTreeMap.{is_at}, proofs.lemmas.Map.Lookups.{exact_unsigned}, proofs.lemmas.Option.{same_Some, none-some, slice_get_within, slice_get-get_or, get_or_from_slice_get}}
use Rattle.mctp_transport.specs.PacketValues.{KeyValue}
use Rattle.net_runs.{specs.Events.{OutcomeValue}, specs.Walkers.{WalkerValue, Handed}}
use Rattle.net_tables.{specs.TwoPlans.{Tables}, proofs.Elements.{in_push, in_set}}
use Rattle.net_sim.{specs.declared.network_walker.NetworkWalker.{NetworkWalker}, specs.declared.walker_index.WalkerIndex.{WalkerIndex}, specs.NetworkWalkers.{walker_value, IsAt, StandsAt, Listens, ListensAt, HandsOver, TellsRequest}, specs.Standing.{TrafficValue}, specs.Requests.{PutsRequest}, proofs.Dealt.{all_at}, specs.WalkerIndexes.{place_cmp, index_at, AreNoted}}

then_equal : (a b : Ordering) → ordering_then a b ≡ Equal → (a ≡ Equal) × (b ≡ Equal)
then_equal Less b e = absurd (cc e)
then_equal Equal b e = (refl, e)
then_equal Greater b e = absurd (cc e)

exact_places : (p q : ℕ × ℕ × ℕ) → place_cmp p q ≡ Equal → p ≡ q
exact_places (a, b, c) (d, e, f) same =
    let (both, third) = then_equal (ordering_then (nat_cmp a d) (nat_cmp b e)) (nat_cmp c f) same in
    let (first, second) = then_equal (nat_cmp a d) (nat_cmp b e) both in
    let triple : ℕ → ℕ → ℕ → ℕ × ℕ × ℕ = λ x y z. (x, y, z) in
    ap (λ x. triple x b c) (exact_unsigned a d first) ∙ (ap (λ y. triple d y c) (exact_unsigned b e second) ∙ ap (λ z. triple d e z) (exact_unsigned c f third))

other_place : (p q : ℕ × ℕ × ℕ) → p ≢ q → is_at (place_cmp p) q ≡ false
other_place p q other = by (place_cmp p q) refl
  where
    by : (o : Ordering) → place_cmp p q ≡ o → is_eq o ≡ false
    by Less e = refl
    by Equal e = absurd (other (exact_places p q e))
    by Greater e = refl

-- another place is none at which something was noted
pub elsewhere : (node eid tag n e t : ℕ) → ¬ ((n ≡ node) × (e ≡ eid) × (t ≡ tag)) → is_at (place_cmp (node, eid, tag)) (n, e, t) ≡ false
elsewhere node eid tag n e t other =
    other_place (node, eid, tag) (n, e, t)
    (λ same. other (ap (λ (p : ℕ × ℕ × ℕ). p.0) (sym same), ap (λ (p : ℕ × ℕ × ℕ). p.1) (sym same), ap (λ (p : ℕ × ℕ × ℕ). p.2) (sym same)))

all_from : {X : Type 0} (P : X → Type 0) (xs : List X) → ((k : ℕ) (x : X) → slice_get xs k ≡ Some x → P x) → All P xs
all_from P xs each i d within = each i (get_or xs i d) (slice_get-get_or xs i d within)

-- so it is of each walker when one has changed
pub all_set : {X : Type 0} (P : X → Type 0) (xs : List X) (i : ℕ) (y : X) → i < length xs → All P xs → P y → All P (slice_set xs i y)
all_set P xs i y within all p = all_from P (slice_set xs i y) (λ k x is. elim (in_set xs y i k x within is) [
  | inl other ↦ all_at P xs all k x other.1
  | inr same ↦ subst P same.1 p
])

-- the walker stays where it is, and asks the same endpoint ID under the same tag
abbrev pub KeepsPlace : WalkerValue → WalkerValue → Type 0
KeepsPlace old new = (new.node ≡ old.node) × (new.eid ≡ old.eid) × (new.tag ≡ old.tag)

pub keeps_same : (old new : WalkerValue) → new ≡ old → KeepsPlace old new
keeps_same old new same = (ap (λ (w : WalkerValue). w.node) same, ap (λ (w : WalkerValue). w.eid) same, ap (λ (w : WalkerValue). w.tag) same)

pub keeps_asking : (old new : WalkerValue) (request : List ℕ) → TellsRequest old request new → KeepsPlace old new
keeps_asking old new request tells =
    (ap (λ (w : WalkerValue). w.node) tells.is, ap (λ (w : WalkerValue). w.eid) tells.is, ap (λ (w : WalkerValue). w.tag) tells.is)

pub keeps_put : (A B : Type 0) (tables : Tables) (t u : TrafficValue) (old new : WalkerValue) (r : Option ℕ) → MatchOption r (A × (new ≡ old) × B) (λ number. PutsRequest tables t old number u new)
    → KeepsPlace old new
keeps_put A B tables t u old new None (a, same, b) = keeps_same old new same
keeps_put A B tables t u old new (Some number) puts = keeps_asking old new puts.request puts.tells

pub keeps_handed : (old : WalkerValue) (number : ℕ) (outcome : OutcomeValue) (handed : Option Handed) (new : WalkerValue) → HandsOver old number outcome handed new → KeepsPlace old new
keeps_handed old number outcome None new (same, nothing) = keeps_same old new same
keeps_handed old number outcome (Some handed) new (of_number, flight, node, key, message, brings, taken) =
    (ap (λ (w : WalkerValue). w.node) taken.is, ap (λ (w : WalkerValue). w.eid) taken.is, ap (λ (w : WalkerValue). w.tag) taken.is)

module _ (index : WalkerIndex) (items : List NetworkWalker) (noted : AreNoted index items) where
  -- one of the walkers changes, and keeps its place
  pub noted_set : (i : ℕ) (x y : NetworkWalker) → slice_get items i ≡ Some x → KeepsPlace (walker_value x) (walker_value y) → AreNoted index (slice_set items i y)
  noted_set i x y there (node, eid, tag) k z is = elim (in_set items y i k z (slice_get_within items i x there) is) [
    | inl other ↦ noted k z other.1
    | inr same ↦ (
        let P : NetworkWalker → Type 0 = λ v. index_at index v.node v.eid.value v.tag.value ≡ Some k in
        subst P same.1
        (ap (λ n. index_at index n y.eid.value y.tag.value) node ∙ (ap (λ e. index_at index x.node e y.tag.value) eid
        ∙ (ap (λ t. index_at index x.node x.eid.value t) tag ∙ (noted i x there ∙ ap Some (sym same.0))))))
  ]

  -- a walker begins at a place where none was
  pub noted_push : (new : WalkerIndex) (node eid tag : ℕ) (walker : NetworkWalker) → ¬ Any (λ x. IsAt node eid tag (walker_value x)) items → IsAt node eid tag (walker_value walker)
      → index_at new node eid tag ≡ Some (length items) → ((n e t : ℕ) → ¬ ((n ≡ node) × (e ≡ eid) × (t ≡ tag)) → index_at new n e t ≡ index_at index n e t)
      → AreNoted new (items ++ walker ∷ [])
  noted_push new node eid tag walker none (at_node, at_eid, at_tag) here others i z is = elim (in_push items walker i z is) [
    | inl old ↦ others z.node z.eid.value z.tag.value (λ at. none (among i z old at)) ∙ noted i z old
    | inr last ↦ (
        let P : NetworkWalker → Type 0 = λ v. index_at new v.node v.eid.value v.tag.value ≡ Some i in
        subst P last.1
        (ap (λ n. index_at new n walker.eid.value walker.tag.value) at_node ∙ (ap (λ e. index_at new node e walker.tag.value) at_eid
        ∙ (ap (λ t. index_at new node eid t) at_tag ∙ (here ∙ ap Some (sym last.0))))))
  ]
    where
      among : (k : ℕ) (v : NetworkWalker) → slice_get items k ≡ Some v → IsAt node eid tag (walker_value v) → Any (λ x. IsAt node eid tag (walker_value x)) items
      among k v at is_at = (k, v, slice_get_within items k v at, get_or_from_slice_get items k v v at, is_at)

  -- a walker of the place stands where its index says
  pub noted_there : (node eid tag k : ℕ) (x : NetworkWalker) → slice_get items k ≡ Some x → IsAt node eid tag (walker_value x) → index_at index node eid tag ≡ Some k
  noted_there node eid tag k x there (at_node, at_eid, at_tag) =
      ap (λ n. index_at index n eid tag) (sym at_node) ∙ (ap (λ e. index_at index x.node e tag) (sym at_eid)
      ∙ (ap (λ t. index_at index x.node x.eid.value t) (sym at_tag) ∙ noted k x there))

  -- where no index is noted there is no walker
  pub none_noted : (node eid tag : ℕ) → index_at index node eid tag ≡ None → All (λ x. ¬ IsAt node eid tag (walker_value x)) items
  none_noted node eid tag none = all_from (λ x. ¬ IsAt node eid tag (walker_value x)) items (λ k x there at. none-some k (sym none ∙ noted_there node eid tag k x there at))

  -- where the walker of the index that is noted is at another place there is none
  pub none_but : (node eid tag i : ℕ) → index_at index node eid tag ≡ Some i → ((x : NetworkWalker) → slice_get items i ≡ Some x → ¬ IsAt node eid tag (walker_value x))
      → All (λ x. ¬ IsAt node eid tag (walker_value x)) items
  none_but node eid tag i is other = all_from (λ x. ¬ IsAt node eid tag (walker_value x)) items (λ k x there at.
      let same : i ≡ k = same_Some i k (sym is ∙ noted_there node eid tag k x there at) in
      other x (ap (slice_get items) same ∙ there) at)

-- whether a walker was found there
pub tells_there : (node eid tag : ℕ) (items : List NetworkWalker) (r : Option ℕ) (b : Bool) → b ≡ is_some r
    → MatchOption r (All (λ x. ¬ IsAt node eid tag (walker_value x)) items) (λ i. StandsAt node eid tag items i) → IsTrue b ↔ Any (λ x. IsAt node eid tag (walker_value x)) items
tells_there node eid tag items None b is none = (λ h. absurd (true≢false (sym h ∙ is)), λ (i, x, within, there, at). absurd (none i x within (subst (λ y. IsAt node eid tag (walker_value y)) (sym there) at)))
tells_there node eid tag items (Some i) b is (x, there, at) = (λ h. (i, x, slice_get_within items i x there, get_or_from_slice_get items i x x there, at), λ any. is)

-- who is at the place of a key's source and tag listens for answers of it, and for no requests
module _ (node : ℕ) (key : KeyValue) where
  listens_where : (w : WalkerValue) → key.owner ≡ false → IsAt node key.source key.tag w → Listens node key w
  listens_where w answer (at_node, at_eid, at_tag) = (
    at_node,
    ap (λ e. record { source = e; tag = w.tag; owner = false }) at_eid
        ∙ (ap (λ t. record { source = key.source; tag = t; owner = false }) at_tag ∙ ap (λ o. record { source = key.source; tag = key.tag; owner = o }) (sym answer)),
  )

  pub requests_for_nobody : (items : List NetworkWalker) → key.owner ≡ true → All (λ x. ¬ Listens node key (walker_value x)) items
  requests_for_nobody items request i d within (at, same) = true≢false (sym request ∙ sym (ap (λ (k : KeyValue). k.owner) same))

  pub listens_there : (items : List NetworkWalker) → key.owner ≡ false → (r : Option ℕ)
      → MatchOption r (All (λ x. ¬ IsAt node key.source key.tag (walker_value x)) items) (λ i. StandsAt node key.source key.tag items i)
      → MatchOption r (All (λ x. ¬ Listens node key (walker_value x)) items) (λ i. ListensAt node key items i)
  listens_there items answer None none = λ i d within (at, same). none i d within (at, ap (λ (k : KeyValue). k.source) same, ap (λ (k : KeyValue). k.tag) same)
  listens_there items answer (Some i) (x, there, at) = (x, there, listens_where (walker_value x) answer at)
