-- Of a plan one cause at most is the first why there is no certificate.
use Rattle.std.{proofs.Common.{add-one, ◌≡◌, ◌≢◌, ℕ, zero, suc, ◌+◌, ◌-◌, ◌<◌, List, length, get_or, Option, Some, None, refl, sym, ap, ◌∙◌, subst, arith, inl, inr}, specs.Prelude.{slice_get}, proofs.Props.{props}, proofs.lemmas.Bool.{cases_order}, proofs.lemmas.List.{same_lists}, proofs.lemmas.Option.{same_Some, slice_get-get_or, slice_get_within}}
use Rattle.mctp_transport.specs.declared.address.Eid.{Eid}
use Rattle.plan_values.{specs.declared.plan.Plan.{Plan}, specs.declared.terminus.PlannedRecord.{PlannedRecord}}
use Rattle.net_tables.{specs.Routing.{MovesTo, OfItem, eid_number}, specs.Ownership.{IsOwnedBy}, specs.Repositories.{records_of}}
use Rattle.net_rules.{specs.declared.rule.Rule.{Rule}, specs.declared.rule.Rule.TheVariants.{C05, C07, C10, C12, C14}, specs.declared.fault.Fault.{Fault}, specs.declared.certify_error.CertifyError.{CertifyError}, specs.declared.certifying.chains.ChainFault.{ChainFault}, specs.declared.certifying.chains.ChainFault.TheVariants.{Missing, Doubled, Circle}, specs.Circles.{IsLoopFrom, IsLeastOnCircle, IsLeastLoop}, specs.RecordChains.{HasNext, HasNewNext, IsFollowedBy, HaveNewHandles, IsBadChain}, specs.Faults.{order_of, site_of}, specs.PlanFaults.{PlanMeets, IsFirstPlanFault}, specs.RoutingLoops.{IsFirstRoutingLoop}, specs.Certificates.{CanBeMetBefore, NamesObstacle}, proofs.RuleOrder.{one_order}, proofs.LevelLaws.{one_owner}, proofs.EidMoves.{moves_only}, proofs.ChainLaws.{bad_chain_breaks_places}}
use Rattle.net_check.{specs.OneObstacle.{IsSameObstacle, HasOneObstacle}, proofs.OneFault.{one_plan_site}}
use Rattle.net_rules.specs.declared.certify_error.CertifyError.TheVariants as error

-- ---- the first of its kind

-- the first index of which a fact fails
one_item : (P : ℕ → Type 0) (i j : ℕ) → ¬ P i × ((k : ℕ) → k < i → P k) → ¬ P j × ((k : ℕ) → k < j → P k) → i ≡ j
one_item P i j (broken, first) (broken', first') = elim (cases_order i j) [
  | inl same ↦ same
  | inr (inl less) ↦ absurd (broken (first' i less))
  | inr (inr more) ↦ absurd (broken' (first j more))
]

pub one_on_circle : (Move : ℕ → ℕ → Type 0) (m n : ℕ) → IsLeastOnCircle Move m → IsLeastOnCircle Move n → m ≡ n
one_on_circle Move m n here there = omega (arith, here.1 n there.0, there.1 m here.0)

-- ---- loops, where at most one move leaves each index

module _ (Move : ℕ → ℕ → Type 0) (only : (n p q : ℕ) → Move n p → Move n q → p ≡ q) where
  same_so_far : (first : ℕ) (xs ys : List ℕ) → IsLoopFrom Move first xs → IsLoopFrom Move first ys → (i n m : ℕ) → slice_get xs i ≡ Some n → slice_get ys i ≡ Some m → n ≡ m
  same_so_far first xs ys one other zero n m is is' = same_Some n m (sym is ∙ (one.starts ∙ (sym other.starts ∙ is')))
  same_so_far first xs ys one other (suc i) n m is is' =
      let x = get_or xs i 0 in
      let y = get_or ys i 0 in
      let here = slice_get-get_or xs i 0 (omega (arith, slice_get_within xs (suc i) n is)) in
      let there = slice_get-get_or ys i 0 (omega (arith, slice_get_within ys (suc i) m is')) in
      let same = same_so_far first xs ys one other i x y here there in
      let next : slice_get xs (i + 1) ≡ Some n = rw add-one is in
      let next' : slice_get ys (i + 1) ≡ Some m = rw add-one is' in
      only x n m (one.loop.joined i x n here next) (subst (λ z. Move z m) (sym same) (other.loop.joined i y m there next'))

  -- neither is longer: it ends with the first return
  no_longer : (first : ℕ) (xs ys : List ℕ) → IsLoopFrom Move first xs → IsLoopFrom Move first ys → ¬ (length xs < length ys)
  no_longer first xs ys one other less =
      let last = length xs - 1 in
      let ends : slice_get xs last ≡ Some first = one.loop.closed ∙ one.starts in
      let y = get_or ys last 0 in
      let there = slice_get-get_or ys last 0 (omega (arith, less)) in
      let same = same_so_far first xs ys one other last first y ends there in
      other.once last (omega (arith, one.loop.two)) (omega (arith, less, one.loop.two)) (there ∙ ap Some (sym same))

  pub one_loop : (xs ys : List ℕ) → IsLeastLoop Move xs → IsLeastLoop Move ys → xs ≡ ys
  one_loop xs ys (first, least, one) (first', least', other') =
      let starts : first' ≡ first = one_on_circle Move first' first least' least in
      let other = subst (λ n. IsLoopFrom Move n ys) starts other' in
      let long : length xs ≡ length ys = elim (cases_order (length xs) (length ys)) [
        | inl same ↦ same
        | inr (inl less) ↦ absurd (no_longer first xs ys one other less)
        | inr (inr more) ↦ absurd (no_longer first ys xs other one more)
      ] in
      same_lists xs ys long (λ k d less. same_so_far first xs ys one other k (get_or xs k d) (get_or ys k d) (slice_get-get_or xs k d less) (slice_get-get_or ys k d (omega (arith, less, long))))

-- ---- chains

one_chain_fault : (records : List PlannedRecord) (kind other : ChainFault) (i j : ℕ) → IsBadChain records kind i → IsBadChain records other j → (kind ≡ other) × (i ≡ j)
one_chain_fault records Missing Missing i j bad bad' = (refl, one_item (λ k. OfItem records k (HasNext records)) i j bad bad')
one_chain_fault records Missing Doubled i j bad bad' = absurd (bad.0 (bad'.0 i))
one_chain_fault records Missing Circle i j bad bad' = absurd (bad.0 (bad'.0 i))
one_chain_fault records Doubled Missing i j bad bad' = absurd (bad'.0 (bad.0 j))
one_chain_fault records Doubled Doubled i j bad bad' = (refl, one_item (λ k. OfItem records k (HasNewNext records k)) i j bad.1 bad'.1)
one_chain_fault records Doubled Circle i j bad bad' = absurd (bad.1.0 (bad'.1 i))
one_chain_fault records Circle Missing i j bad bad' = absurd (bad'.0 (bad.0 j))
one_chain_fault records Circle Doubled i j bad bad' = absurd (bad'.1.0 (bad.1 j))
one_chain_fault records Circle Circle i j bad bad' = (refl, one_on_circle (IsFollowedBy records) i j bad.2 bad'.2)

-- ---- endpoint IDs and faults by their numbers

byte_prop : (v : ℕ) → IsProp (v < 256)
byte_prop v = hlevel props

with_value : (v : ℕ) → v < 256 → Eid
with_value v within = record { value = v; in_range = within }

pub one_eid : (a b : Eid) → a.value ≡ b.value → a ≡ b
unfolding with_value
one_eid a b same =
    (let P : ℕ → Type 0 = λ k. (r : k < 256) → with_value a.value a.in_range ≡ with_value k r in
    subst P same (λ r. ap (λ t. with_value a.value t) (byte_prop a.value a.in_range r))) b.in_range

pub one_eid_number : (a b : Option Eid) → eid_number a ≡ eid_number b → a ≡ b
one_eid_number None None same = refl
one_eid_number None (Some b) same = cc
one_eid_number (Some a) None same = cc
one_eid_number (Some a) (Some b) same = ap Some (one_eid a b (same_Some a.value b.value same))

one_fault : (p q : Fault) → site_of p ≡ site_of q → p ≡ q
one_fault p q same = λ i. record {
  rule = (same i).rule;
  node = (same i).node;
  entry = (same i).entry;
  eid = one_eid_number p.eid q.eid (λ j. (same j).eid) i;
}

-- ---- where the search stops

-- the rule at which it does
abbrev stop_of : CertifyError → ℕ
stop_of (error.Fault fault) = order_of fault.rule
stop_of (error.OwnerLoop nodes) = order_of C07
stop_of (error.Loop eid nodes) = order_of C10
stop_of (error.BadChain node kind entry) = order_of C14
stop_of error.OutOfMemory = 0

module _ (plan : Plan) where
  up_to : (e : CertifyError) → e ≢ error.OutOfMemory → NamesObstacle plan e → CanBeMetBefore plan (stop_of e)
  up_to (error.Fault fault) some named = named.0
  up_to (error.OwnerLoop nodes) some named = named.0
  up_to (error.Loop eid nodes) some named = named.0
  up_to (error.BadChain node kind entry) some named = named.0
  up_to error.OutOfMemory some named = absurd (some refl)

  no_further : (e : CertifyError) → e ≢ error.OutOfMemory → NamesObstacle plan e → (order : ℕ) → stop_of e < order → ¬ CanBeMetBefore plan order
  no_further (error.Fault fault) some named order less can =
      let p = site_of fault in
      named.1.broken (can.plan_meets p.rule less p.node p.entry p.eid)
  no_further (error.OwnerLoop nodes) some named order less can = can.owners less named.2.0 named.2.1.0
  no_further (error.Loop eid nodes) some named order less can = can.routes less eid.value named.1.picked.0 named.1.picked.1.0
  no_further (error.BadChain node kind entry) some named order less can =
      let places = can.chains less node in
      bad_chain_breaks_places (records_of plan node) kind entry (λ j r is. can.plan_meets C12 (omega (arith, less)) node (Some j) None r is) named.1 places.0 places.1.1
  no_further error.OutOfMemory some named order less can = absurd (some refl)

  one_stop : (e f : CertifyError) → e ≢ error.OutOfMemory → f ≢ error.OutOfMemory → NamesObstacle plan e → NamesObstacle plan f → stop_of e ≡ stop_of f
  one_stop e f some some' named named' = elim (cases_order (stop_of e) (stop_of f)) [
    | inl same ↦ same
    | inr (inl less) ↦ absurd (no_further e some named (stop_of f) less (up_to f some' named'))
    | inr (inr more) ↦ absurd (no_further f some' named' (stop_of e) more (up_to e some named))
  ]

  -- a fault breaks its rule
  breaks : (fault : Fault) (rule : Rule) → order_of fault.rule ≡ order_of rule → IsFirstPlanFault plan (site_of fault) → ¬ PlanMeets plan rule
  breaks fault rule same first meets =
      let P : Rule → Type 0 = PlanMeets plan in
      first.broken (subst P (sym (one_order fault.rule rule same)) meets fault.node fault.entry (eid_number fault.eid))

  -- neither C10 nor C14 is asked of the plan alone
  meets_routes : PlanMeets plan C10
  meets_routes n entry eid = tt

  meets_chains : PlanMeets plan C14
  meets_chains n entry eid = tt

  one_by_kind : (e f : CertifyError) → NamesObstacle plan e → NamesObstacle plan f → e ≢ error.OutOfMemory → f ≢ error.OutOfMemory → stop_of e ≡ stop_of f → IsSameObstacle e f
  one_by_kind (error.Fault p) (error.Fault q) named named' some some' stop = one_fault p q (one_plan_site plan (site_of p) (site_of q) named.1 named'.1)
  one_by_kind (error.Fault p) (error.OwnerLoop others) named named' some some' stop = absurd (breaks p C07 stop named.1 named'.1)
  one_by_kind (error.Fault p) (error.Loop eid others) named named' some some' stop = absurd (breaks p C10 stop named.1 meets_routes)
  one_by_kind (error.Fault p) (error.BadChain node kind entry) named named' some some' stop = absurd (breaks p C14 stop named.1 meets_chains)
  one_by_kind (error.OwnerLoop nodes) (error.Fault q) named named' some some' stop = absurd (breaks q C07 (sym stop) named'.1 named.1)
  one_by_kind (error.OwnerLoop nodes) (error.OwnerLoop others) named named' some some' stop =
      one_loop (IsOwnedBy plan) (one_owner plan) nodes.items others.items named.2 named'.2
  one_by_kind (error.OwnerLoop nodes) (error.Loop eid others) named named' some some' stop = absurd (omega (arith, stop))
  one_by_kind (error.OwnerLoop nodes) (error.BadChain node kind entry) named named' some some' stop = absurd (omega (arith, stop))
  one_by_kind (error.Loop eid nodes) (error.Fault q) named named' some some' stop = absurd (breaks q C10 (sym stop) named'.1 meets_routes)
  one_by_kind (error.Loop eid nodes) (error.OwnerLoop others) named named' some some' stop = absurd (omega (arith, stop))
  one_by_kind (error.Loop eid nodes) (error.Loop other others) named named' some some' stop = one_routing_loop eid other nodes.items others.items named.0 named.1 named'.1
    where
      one_routing_loop : (eid other : Eid) (nodes others : List ℕ) → CanBeMetBefore plan (order_of C10) → IsFirstRoutingLoop plan eid.value nodes → IsFirstRoutingLoop plan other.value others → (eid ≡ other) × (nodes ≡ others)
      one_routing_loop eid other nodes others can one two =
          let numbers : eid.value ≡ other.value = elim (cases_order eid.value other.value) [
            | inl same ↦ same
            | inr (inl less) ↦ absurd (two.least eid.value less one.picked.0 one.picked.1.0)
            | inr (inr more) ↦ absurd (one.least other.value more two.picked.0 two.picked.1.0)
          ] in
          let L : ℕ → Type 0 = λ e. IsLeastLoop (MovesTo plan e) others in (
            one_eid eid other numbers,
            one_loop (MovesTo plan eid.value) (moves_only plan eid.value (λ n r. can.plan_meets C05 (omega arith) n (Some r) None)) nodes others one.picked (subst L (sym numbers) two.picked),
          )
  one_by_kind (error.Loop eid nodes) (error.BadChain node kind entry) named named' some some' stop = absurd (omega (arith, stop))
  one_by_kind (error.BadChain node kind entry) (error.Fault q) named named' some some' stop = absurd (breaks q C14 (sym stop) named'.1 meets_chains)
  one_by_kind (error.BadChain node kind entry) (error.OwnerLoop others) named named' some some' stop = absurd (omega (arith, stop))
  one_by_kind (error.BadChain node kind entry) (error.Loop eid others) named named' some some' stop = absurd (omega (arith, stop))
  one_by_kind (error.BadChain node kind entry) (error.BadChain other wrong place) named named' some some' stop =
      let handles : (n : ℕ) → HaveNewHandles (records_of plan n) = λ n j r is. named.0.plan_meets C12 (omega arith) n (Some j) None r is in
      let same : node ≡ other = elim (cases_order node other) [
        | inl same ↦ same
        | inr (inl less) ↦ (let places = named'.2 node less in absurd (bad_chain_breaks_places (records_of plan node) kind entry (handles node) named.1 places.0 places.1.1))
        | inr (inr more) ↦ (let places = named.2 other more in absurd (bad_chain_breaks_places (records_of plan other) wrong place (handles other) named'.1 places.0 places.1.1))
      ] in
      let B : ℕ → Type 0 = λ n. IsBadChain (records_of plan n) wrong place in
      let faults = one_chain_fault (records_of plan node) kind wrong entry place named.1 (subst B (sym same) named'.1) in
      (same, faults.0, faults.1)
  one_by_kind error.OutOfMemory f named named' some some' stop = absurd (some refl)
  one_by_kind e error.OutOfMemory named named' some some' stop = absurd (some' refl)

  pub one_obstacle : HasOneObstacle plan
  one_obstacle e f named named' some some' = one_by_kind e f named named' some some' (one_stop e f some some' named named')
