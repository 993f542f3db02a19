-- What is found stands where it is looked for, and nothing else stands there.
use Rattle.std.{proofs.Common.{zero-add, ◌≡◌, ℕ, ◌<◌, List, [], ◌∷◌, ◌++◌, get_or, Some, refl, sym, ◌∙◌, ap, subst, arith, inl, inr, ◌⊎◌, ◌≤◌}, proofs.Props.{props}, specs.Prelude.{slice_get}, proofs.lemmas.Bool.{cases_lt}, proofs.lemmas.List.{get_or-map}, proofs.lemmas.List.FromFn.{get_or-range_with_len}, proofs.lemmas.Option.{same_Some, slice_get_within}}
use Rattle.mctp_transport.specs.declared.address.Eid.{Eid}
use Rattle.plan_values.specs.declared.plan.Plan.{Plan}
use Rattle.net_tables.{specs.Routing.{ports_of, rows_of}, specs.Repositories.{records_of}, proofs.Elements.{holder_within}}
use Rattle.net_questions.{specs.declared.code.Code.{Code}, specs.declared.finding.Finding.{Finding}, specs.declared.finding.Finding.TheVariants.{SharedAddress, MissingAddress, SharedTid, MissingLocator, SharedSensorId, OwnerHasNoWay, NoWayToOwner, IdleRow, PoolEidNotLedOn, LonePort, EmptyReadableRange, Isolated, ForeignMedia, ReservedBinding, ReservedAddress, EmptyBus, CrossedThresholds, UnknownTerminusHandle, UncontainedEntity, OddAddress, ForeignLength, UncarriedUnit, SharedSevenBits}, specs.Findings.{IsSo, order_of, subject_of, key_of, sites_of, items_of, others_of, other_items_of, BeginsWith, Adds, IsUnder, AreFindings}, proofs.Within.{port_within, row_within, record_within, terminus_within, bridge_within, owned_within}, proofs.TopmostOwners.{topmost_within}, proofs.Ascending.{NextBelow, Below, start, one, nothing, all_pairs}}
use Rattle.net_questions.specs.declared.code.Code.TheVariants as code

-- ---- the codes in their order

abbrev in_order : List Code
in_order = code.SharedAddress ∷ code.MissingAddress ∷ code.SharedTid ∷ code.MissingLocator ∷ code.SharedSensorId ∷ code.OwnerHasNoWay ∷ code.NoWayToOwner ∷ code.IdleRow ∷ code.PoolEidNotLedOn ∷ code.LonePort ∷ code.EmptyReadableRange ∷ code.Isolated
    ∷ code.ForeignMedia ∷ code.ReservedBinding ∷ code.ReservedAddress ∷ code.EmptyBus ∷ code.CrossedThresholds ∷ code.UnknownTerminusHandle ∷ code.UncontainedEntity ∷ code.OddAddress ∷ code.ForeignLength ∷ code.UncarriedUnit ∷ code.SharedSevenBits ∷ []

stands_in_order : (c : Code) → slice_get in_order (order_of c) ≡ Some c
stands_in_order code.SharedAddress = refl
stands_in_order code.MissingAddress = refl
stands_in_order code.SharedTid = refl
stands_in_order code.MissingLocator = refl
stands_in_order code.SharedSensorId = refl
stands_in_order code.OwnerHasNoWay = refl
stands_in_order code.NoWayToOwner = refl
stands_in_order code.IdleRow = refl
stands_in_order code.PoolEidNotLedOn = refl
stands_in_order code.LonePort = refl
stands_in_order code.EmptyReadableRange = refl
stands_in_order code.Isolated = refl
stands_in_order code.ForeignMedia = refl
stands_in_order code.ReservedBinding = refl
stands_in_order code.ReservedAddress = refl
stands_in_order code.EmptyBus = refl
stands_in_order code.CrossedThresholds = refl
stands_in_order code.UnknownTerminusHandle = refl
stands_in_order code.UncontainedEntity = refl
stands_in_order code.OddAddress = refl
stands_in_order code.ForeignLength = refl
stands_in_order code.UncarriedUnit = refl
stands_in_order code.SharedSevenBits = refl

pub one_order : (a b : Code) → order_of a ≡ order_of b → a ≡ b
one_order a b same = same_Some a b (sym (stands_in_order a) ∙ (ap (λ k. slice_get in_order k) same ∙ stands_in_order b))

pub order_at : (k : ℕ) (d : Code) → k < 23 → order_of (get_or in_order k d) ≡ k
order_at k d less = sym (get_or-map order_of in_order k d 0 less) ∙ get_or-range_with_len 0 23 k 0 less ∙ zero-add k

order_within : (c : Code) → order_of c < 23
order_within c = slice_get_within in_order (order_of c) c (stands_in_order c)

-- ---- where findings stand

site_within : (plan : Plan) (f : Finding) → IsSo plan f → (subject_of f).site < sites_of plan (subject_of f).code
site_within plan (SharedAddress n p m q) (early, (a, is, rest)) = port_within plan n p a is
site_within plan (MissingAddress n p) (a, is, rest) = port_within plan n p a is
site_within plan (SharedTid n m) (early, (t, is, rest)) = terminus_within plan n t is
site_within plan (MissingLocator n) (t, is, rest) = terminus_within plan n t is
site_within plan (SharedSensorId n j) (r, is, rest) = record_within plan n j r is
site_within plan (OwnerHasNoWay n m) so = owned_within plan n so.0.1.0 so.0.1.1
site_within plan (NoWayToOwner n m) so = owned_within plan n so.0.1.0 so.0.1.1
site_within plan (IdleRow n r) (row, is, rest) = row_within plan n r row is
site_within plan (PoolEidNotLedOn n eid) so = bridge_within plan n so.0
site_within plan (LonePort n p) (a, is, rest) = port_within plan n p a is
site_within plan (EmptyReadableRange n j) (r, is, rest) = record_within plan n j r is
site_within plan (Isolated n) so = holder_within plan n so.1.0 so.1.1
site_within plan (ForeignMedia b) (bus, is, rest) = slice_get_within plan.buses.items b bus is
site_within plan (ReservedBinding b) (bus, is, rest) = slice_get_within plan.buses.items b bus is
site_within plan (ReservedAddress n p) (a, is, rest) = port_within plan n p a is
site_within plan (EmptyBus b) (bus, is, rest) = slice_get_within plan.buses.items b bus is
site_within plan (CrossedThresholds n j) (r, is, rest) = record_within plan n j r is
site_within plan (UnknownTerminusHandle n j) (r, is, rest) = record_within plan n j r is
site_within plan (UncontainedEntity n j) (r, is, rest) = record_within plan n j r is
site_within plan (OddAddress n p) (a, is, rest) = port_within plan n p a is
site_within plan (ForeignLength n p) (a, is, rest) = port_within plan n p a is
site_within plan (UncarriedUnit b) (bus, is, rest) = slice_get_within plan.buses.items b bus is
site_within plan (SharedSevenBits n p m q) (early, (a, is, rest)) = port_within plan n p a is

item_within : (plan : Plan) (f : Finding) → IsSo plan f → (subject_of f).item < items_of plan (subject_of f).code (subject_of f).site
item_within plan (SharedAddress n p m q) (early, (a, is, rest)) = slice_get_within (ports_of plan n) p a is
item_within plan (MissingAddress n p) (a, is, rest) = slice_get_within (ports_of plan n) p a is
item_within plan (SharedTid n m) so = omega arith
item_within plan (MissingLocator n) so = omega arith
item_within plan (SharedSensorId n j) (r, is, rest) = slice_get_within (records_of plan n) j r is
item_within plan (OwnerHasNoWay n m) so = omega arith
item_within plan (NoWayToOwner n m) so = omega arith
item_within plan (IdleRow n r) (row, is, rest) = slice_get_within (rows_of plan n) r row is
item_within plan (PoolEidNotLedOn n eid) so = eid.in_range
item_within plan (LonePort n p) (a, is, rest) = slice_get_within (ports_of plan n) p a is
item_within plan (EmptyReadableRange n j) (r, is, rest) = slice_get_within (records_of plan n) j r is
item_within plan (Isolated n) so = omega arith
item_within plan (ForeignMedia b) so = omega arith
item_within plan (ReservedBinding b) so = omega arith
item_within plan (ReservedAddress n p) (a, is, rest) = slice_get_within (ports_of plan n) p a is
item_within plan (EmptyBus b) so = omega arith
item_within plan (CrossedThresholds n j) (r, is, rest) = slice_get_within (records_of plan n) j r is
item_within plan (UnknownTerminusHandle n j) (r, is, rest) = slice_get_within (records_of plan n) j r is
item_within plan (UncontainedEntity n j) (r, is, rest) = slice_get_within (records_of plan n) j r is
item_within plan (OddAddress n p) (a, is, rest) = slice_get_within (ports_of plan n) p a is
item_within plan (ForeignLength n p) (a, is, rest) = slice_get_within (ports_of plan n) p a is
item_within plan (UncarriedUnit b) so = omega arith
item_within plan (SharedSevenBits n p m q) (early, (a, is, rest)) = slice_get_within (ports_of plan n) p a is

other_within : (plan : Plan) (f : Finding) → IsSo plan f → (subject_of f).other < others_of plan (subject_of f).code
other_within plan (SharedAddress n p m q) (early, (a, is, (b, at, rest))) = port_within plan m q b at
other_within plan (MissingAddress n p) so = omega arith
other_within plan (SharedTid n m) (early, (t, is, (u, at, rest))) = terminus_within plan m u at
other_within plan (MissingLocator n) so = omega arith
other_within plan (SharedSensorId n j) so = omega arith
other_within plan (OwnerHasNoWay n m) so = topmost_within plan n m so.0
other_within plan (NoWayToOwner n m) so = topmost_within plan n m so.0
other_within plan (IdleRow n r) so = omega arith
other_within plan (PoolEidNotLedOn n eid) so = omega arith
other_within plan (LonePort n p) so = omega arith
other_within plan (EmptyReadableRange n j) so = omega arith
other_within plan (Isolated n) so = omega arith
other_within plan (ForeignMedia b) so = omega arith
other_within plan (ReservedBinding b) so = omega arith
other_within plan (ReservedAddress n p) so = omega arith
other_within plan (EmptyBus b) so = omega arith
other_within plan (CrossedThresholds n j) so = omega arith
other_within plan (UnknownTerminusHandle n j) so = omega arith
other_within plan (UncontainedEntity n j) so = omega arith
other_within plan (OddAddress n p) so = omega arith
other_within plan (ForeignLength n p) so = omega arith
other_within plan (UncarriedUnit b) so = omega arith
other_within plan (SharedSevenBits n p m q) (early, (a, is, (b, at, rest))) = port_within plan m q b at

other_item_within : (plan : Plan) (f : Finding) → IsSo plan f → (subject_of f).other_item < other_items_of plan (subject_of f).code (subject_of f).other
other_item_within plan (SharedAddress n p m q) (early, (a, is, (b, at, rest))) = slice_get_within (ports_of plan m) q b at
other_item_within plan (MissingAddress n p) so = omega arith
other_item_within plan (SharedTid n m) so = omega arith
other_item_within plan (MissingLocator n) so = omega arith
other_item_within plan (SharedSensorId n j) so = omega arith
other_item_within plan (OwnerHasNoWay n m) so = omega arith
other_item_within plan (NoWayToOwner n m) so = omega arith
other_item_within plan (IdleRow n r) so = omega arith
other_item_within plan (PoolEidNotLedOn n eid) so = omega arith
other_item_within plan (LonePort n p) so = omega arith
other_item_within plan (EmptyReadableRange n j) so = omega arith
other_item_within plan (Isolated n) so = omega arith
other_item_within plan (ForeignMedia b) so = omega arith
other_item_within plan (ReservedBinding b) so = omega arith
other_item_within plan (ReservedAddress n p) so = omega arith
other_item_within plan (EmptyBus b) so = omega arith
other_item_within plan (CrossedThresholds n j) so = omega arith
other_item_within plan (UnknownTerminusHandle n j) so = omega arith
other_item_within plan (UncontainedEntity n j) so = omega arith
other_item_within plan (OddAddress n p) so = omega arith
other_item_within plan (ForeignLength n p) so = omega arith
other_item_within plan (UncarriedUnit b) so = omega arith
other_item_within plan (SharedSevenBits n p m q) (early, (a, is, (b, at, rest))) = slice_get_within (ports_of plan m) q b at

-- ---- the ends of the loops

module _ (plan : Plan) (f : Finding) (so : IsSo plan f) where
  pub end_of_codes : NextBelow [] 23 (key_of f)
  end_of_codes = order_within (subject_of f).code

  pub end_of_sites : (c : Code) → BeginsWith (order_of c ∷ []) (key_of f) → NextBelow (order_of c ∷ []) (sites_of plan c) (key_of f)
  end_of_sites c at = (at.0, subst (λ d. (subject_of f).site < sites_of plan d) (sym (one_order c (subject_of f).code at.0)) (site_within plan f so))

  pub end_of_items : (c : Code) (n : ℕ) → BeginsWith (order_of c ∷ n ∷ []) (key_of f) → NextBelow (order_of c ∷ n ∷ []) (items_of plan c n) (key_of f)
  end_of_items c n at =
      let Within : Code → ℕ → Type 0 = λ d k. (subject_of f).item < items_of plan d k in (
        at.0,
        (
          at.1.0,
          subst (λ k. Within c k) (sym at.1.0)
              (subst (λ d. Within d (subject_of f).site) (sym (one_order c (subject_of f).code at.0)) (item_within plan f so)),
        ),
      )

  pub end_of_others : (c : Code) (n i : ℕ) → BeginsWith (order_of c ∷ n ∷ i ∷ []) (key_of f) → NextBelow (order_of c ∷ n ∷ i ∷ []) (others_of plan c) (key_of f)
  end_of_others c n i at =
      (at.0, (at.1.0, (at.1.1.0, subst (λ d. (subject_of f).other < others_of plan d) (sym (one_order c (subject_of f).code at.0)) (other_within plan f so))))

  pub end_of_other_items : (c : Code) (n i m : ℕ) → BeginsWith (order_of c ∷ n ∷ i ∷ m ∷ []) (key_of f) → NextBelow (order_of c ∷ n ∷ i ∷ m ∷ []) (other_items_of plan c m) (key_of f)
  end_of_other_items c n i m at =
      let Within : Code → ℕ → Type 0 = λ d k. (subject_of f).other_item < other_items_of plan d k in (
        at.0,
        (
          at.1.0,
          (
            at.1.1.0,
            (
              at.1.1.1.0,
              subst (λ k. Within c k) (sym at.1.1.1.0)
                  (subst (λ d. Within d (subject_of f).other) (sym (one_order c (subject_of f).code at.0)) (other_item_within plan f so)),
            ),
          ),
        ),
      )

-- ---- one finding of the same numbers

byte_prop : (v : ℕ) → IsProp (v < 256)
byte_prop v = hlevel props

with_value : (v : ℕ) → v < 256 → Eid
with_value v within = record { value = v; in_range = within }

one_eid : (v w : ℕ) (p : v < 256) (q : w < 256) → v ≡ w → with_value v p ≡ with_value w q
one_eid v w p q same =
    let P : ℕ → Type 0 = λ k. (r : k < 256) → with_value v p ≡ with_value k r in
    subst P same (λ r. ap (λ t. with_value v t) (byte_prop v p r)) q

same_eid : (a b : Eid) → a.value ≡ b.value → a ≡ b
unfolding with_value
same_eid a b same = one_eid a.value b.value a.in_range b.in_range same

eid_by : (i : ℕ) → (i < 256) ⊎ (256 ≤ i) → Eid
eid_by i (inl lt) = record { value = i; in_range = lt }
eid_by i (inr past) = record { value = 0; in_range = omega arith }

eid_of : ℕ → Eid
eid_of i = eid_by i (cases_lt i 256)

value_by : (i : ℕ) (c : (i < 256) ⊎ (256 ≤ i)) → i < 256 → (eid_by i c).value ≡ i
unfolding eid_by
value_by i (inl lt) within = refl
value_by i (inr past) within = absurd (omega (arith, past, within))

value_of_eid : (e : Eid) → (eid_of e.value).value ≡ e.value
unfolding eid_of
value_of_eid e = value_by e.value (cases_lt e.value 256) e.in_range

made : Code → ℕ → ℕ → ℕ → ℕ → Finding
made code.SharedAddress n i m j = SharedAddress n i m j
made code.MissingAddress n i m j = MissingAddress n i
made code.SharedTid n i m j = SharedTid n m
made code.MissingLocator n i m j = MissingLocator n
made code.SharedSensorId n i m j = SharedSensorId n i
made code.OwnerHasNoWay n i m j = OwnerHasNoWay n m
made code.NoWayToOwner n i m j = NoWayToOwner n m
made code.IdleRow n i m j = IdleRow n i
made code.PoolEidNotLedOn n i m j = PoolEidNotLedOn n (eid_of i)
made code.LonePort n i m j = LonePort n i
made code.EmptyReadableRange n i m j = EmptyReadableRange n i
made code.Isolated n i m j = Isolated n
made code.ForeignMedia n i m j = ForeignMedia n
made code.ReservedBinding n i m j = ReservedBinding n
made code.ReservedAddress n i m j = ReservedAddress n i
made code.EmptyBus n i m j = EmptyBus n
made code.CrossedThresholds n i m j = CrossedThresholds n i
made code.UnknownTerminusHandle n i m j = UnknownTerminusHandle n i
made code.UncontainedEntity n i m j = UncontainedEntity n i
made code.OddAddress n i m j = OddAddress n i
made code.ForeignLength n i m j = ForeignLength n i
made code.UncarriedUnit n i m j = UncarriedUnit n
made code.SharedSevenBits n i m j = SharedSevenBits n i m j

made_again : (f : Finding) → made (subject_of f).code (subject_of f).site (subject_of f).item (subject_of f).other (subject_of f).other_item ≡ f
unfolding made
made_again (SharedAddress n p m q) = refl
made_again (MissingAddress n p) = refl
made_again (SharedTid n m) = refl
made_again (MissingLocator n) = refl
made_again (SharedSensorId n j) = refl
made_again (OwnerHasNoWay n m) = refl
made_again (NoWayToOwner n m) = refl
made_again (IdleRow n r) = refl
made_again (PoolEidNotLedOn n eid) = ap (λ e. PoolEidNotLedOn n e) (same_eid (eid_of eid.value) eid (value_of_eid eid))
made_again (LonePort n p) = refl
made_again (EmptyReadableRange n j) = refl
made_again (Isolated n) = refl
made_again (ForeignMedia b) = refl
made_again (ReservedBinding b) = refl
made_again (ReservedAddress n p) = refl
made_again (EmptyBus b) = refl
made_again (CrossedThresholds n j) = refl
made_again (UnknownTerminusHandle n j) = refl
made_again (UncontainedEntity n j) = refl
made_again (OddAddress n p) = refl
made_again (ForeignLength n p) = refl
made_again (UncarriedUnit b) = refl
made_again (SharedSevenBits n p m q) = refl

one_made : (c d : Code) (n k i j m l p q : ℕ) → c ≡ d → n ≡ k → i ≡ j → m ≡ l → p ≡ q → made c n i m p ≡ made d k j l q
one_made c d n k i j m l p q a b e f g = cc

one_finding : (f g : Finding) → BeginsWith (key_of f) (key_of g) → f ≡ g
one_finding f g at =
    let s = subject_of f in
    let t = subject_of g in
    sym (made_again f)
    ∙ (one_made s.code t.code s.site t.site s.item t.item s.other t.other s.other_item t.other_item (one_order s.code t.code at.0) at.1.0 at.1.1.0 at.1.1.1.0 at.1.1.1.1.0
    ∙ made_again g)

-- ---- what is added where it is so, and where it isn't

pub one_added : (plan : Plan) (f : Finding) (old new : List Finding) → IsSo plan f → new ≡ old ++ f ∷ [] → Adds (IsUnder plan (key_of f)) old new
one_added plan f old new so pushed =
    subst (λ fs. Adds (IsUnder plan (key_of f)) old fs) (sym pushed) (one (IsUnder plan (key_of f)) f old (so, (refl, (refl, (refl, (refl, (refl, tt)))))) (λ g at. one_finding f g at.1))

pub none_added : (plan : Plan) (f : Finding) (old : List Finding) → ¬ IsSo plan f → Adds (IsUnder plan (key_of f)) old old
none_added plan f old not = nothing (IsUnder plan (key_of f)) old (λ g at. not (subst (λ h. IsSo plan h) (sym (one_finding f g at.1)) at.0))

-- ---- the whole list

pub are_findings : (plan : Plan) (findings : List Finding) → Adds (Below plan [] 23) [] findings → AreFindings plan findings
are_findings plan findings (more, is, all) =
    let whole : findings ≡ more = is in
    subst (λ fs. AreFindings plan fs) (sym whole) (record {
      exact = λ f. (λ at. ((all.exact f).0 at).0, λ so. (all.exact f).1 (so, end_of_codes plan f so));
      ordered = all_pairs more all.ascend;
    })

pub start_empty : (plan : Plan) (findings : List Finding) → findings ≡ [] → Adds (Below plan [] 0) [] findings
start_empty plan findings empty = subst (λ fs. Adds (Below plan [] 0) [] fs) (sym empty) (start plan [] [])
