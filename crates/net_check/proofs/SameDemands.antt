-- What the rules demand of plans of one value, and of certificates of one value, is the same.
use Rattle.std.{proofs.Common.{◌≡◌, ℕ, List, [], ◌∷◌, length, Option, Some, None, refl, sym, ap, ◌∙◌, subst, arith, inl, inr}, specs.Prelude.{slice_get, option_map}, proofs.lemmas.Option.{same_Some, none-some}}
use Rattle.mctp_transport.specs.PacketValues.{IsAssignable}
use Rattle.plan_values.{specs.declared.plan.Plan.{Plan}, specs.declared.nodes.Row.{Row}, specs.declared.nodes.Pool.{Pool}, specs.declared.terminus.PlannedRecord.{PlannedRecord}, specs.declared.terminus.PlannedTerminus.{PlannedTerminus}, specs.declared.certificate.Certificate.{Certificate}, specs.NodeValues.{TerminusValue, terminus_value, record_value}, specs.PlanValues.{plan_value}, specs.CertificateValues.{certificate_value}}
use Rattle.pdr_repository.specs.Records.{IsRecordOf}
use Rattle.net_tables.{specs.Routing.{rows_of}, specs.Rows.{IsInRange, IsApartFromEarlier, IsJoined, NamesNeighbor}, specs.Ownership.{owner_of, IsInPoolOf, level}, specs.Ranks.{Falls}, specs.Repositories.{terminus_of, records_of, places_of, HasRecords, HasNewHandle, IsChained}, specs.TwoPlans.{one_plan, HasRowInBoth, HasRowInEither}}
use Rattle.net_rules.{specs.declared.rule.Rule.{Rule}, specs.declared.rule.Rule.TheVariants.{C01, C02, C03, C04, C05, C06, C07, C08, C09, C10, C11, C12, C13, C14, C15, C16}, specs.Names.{HaveOneName, HasNewName}, specs.Eids.{IsNewlyHeld}, specs.Owners.{ShareBus, HasBridgeAsOwner, IsBelowItsOwner}, specs.Pools.{IsInOwnersPool, IsInNoPeersPool, IsInItsPool, LiesInOwnersPool, LiesApartFromEarlierPools, IsLawfulPool, HasLawfulPool}, specs.HeldEids.{IsLedOn}, specs.Locators.{HasOneByteAsEid, IsHeldByTerminus, LocatesTerminus}, specs.Superfluous.{NeedsItsLevel, NeedsItsPlaces, NeedsWhatItIsGiven, NeedsItsRank}, specs.Rules.{AtNode, AtItsEid, AtNodeOrEid, AtItem, AtRowEid, PlanDemands, CertificateDemands, Demands}}
use Rattle.net_check.{proofs.SeenAlike.{as_many}, proofs.SameRecords.{spelled, locator, one_byte, at_item, at_node_or_item, at_item_or_eid, new_handle, chained}, proofs.SameNodes.{many, names, owners, pools, rows, termini, records, on_buses, buses, bridges, held, owned, has_row, unheld, levels, places, ranks, levels_are}}

-- ---- where a rule speaks

pub at_node : (P Q : Type 0) → (P → Q) → (entry eid : Option ℕ) → AtNode P entry eid → AtNode Q entry eid
at_node P Q to None None met = to met
at_node P Q to None (Some e) met = tt
at_node P Q to (Some i) eid met = tt

at_row : (table : List Row) (P Q : ℕ → Row → Type 0) → ((i : ℕ) (row : Row) → P i row → Q i row) → (entry eid : Option ℕ) → AtItem table P entry eid → AtItem table Q entry eid
at_row table P Q to (Some i) None met = λ row is. to i row (met row is)
at_row table P Q to (Some i) (Some e) met = tt
at_row table P Q to None eid met = tt

pub at_node_or_eid : (P P' : Type 0) (Q Q' : ℕ → Type 0) → (P → P') → ((e : ℕ) → Q e → Q' e) → (entry eid : Option ℕ) → AtNodeOrEid P Q entry eid → AtNodeOrEid P' Q' entry eid
at_node_or_eid P P' Q Q' to to' None None met = to met
at_node_or_eid P P' Q Q' to to' None (Some e) met = to' e met
at_node_or_eid P P' Q Q' to to' (Some i) eid met = tt

-- ---- of plans

module _ (plan other : Plan) (same : plan_value plan ≡ plan_value other) where
  at_its_eid : (n : ℕ) (P Q : ℕ → Type 0) → ((e : ℕ) → P e → Q e) → (entry eid : Option ℕ) → AtItsEid plan n P entry eid → AtItsEid other n Q entry eid
  at_its_eid n P Q to None (Some e) met = λ holds. to e (met (held other plan (sym same) n e holds))
  at_its_eid n P Q to None None met = tt
  at_its_eid n P Q to (Some i) eid met = tt

  pub at_row_eid : (n : ℕ) (P Q : Row → ℕ → Type 0) → ((row : Row) (e : ℕ) → P row e → Q row e) → (entry eid : Option ℕ) → AtRowEid plan n P entry eid → AtRowEid other n Q entry eid
  at_row_eid n P Q to (Some r) (Some e) met = λ row is covers. to row e (met row (ap (λ (table : List Row). slice_get table r) (rows plan other same n) ∙ is) covers)
  at_row_eid n P Q to (Some r) None met = tt
  at_row_eid n P Q to None eid met = tt

  new_name : (n : ℕ) → HasNewName plan n → HasNewName other n
  unfolding HasNewName HaveOneName
  new_name n new m less (name, here, here') = new m less (name, names plan other same m ∙ here, names plan other same n ∙ here')

  newly_held : (n e : ℕ) → IsNewlyHeld plan n e → IsNewlyHeld other n e
  unfolding IsNewlyHeld
  newly_held n e new m less = unheld plan other same m e (new m less)

  neighbor : (n : ℕ) (row : Row) → NamesNeighbor plan n row → NamesNeighbor other n row
  unfolding NamesNeighbor IsJoined
  neighbor n row (away, (bus, is, on), several) =
      (away, (bus, sym (buses plan other same n row.port) ∙ is, on_buses plan other same row.next bus on), λ more. bridges plan other same row.next (several more))

  bridge_owns : (n : ℕ) → HasBridgeAsOwner plan n → HasBridgeAsOwner other n
  unfolding HasBridgeAsOwner ShareBus
  bridge_owns n has owner owns =
      let found = has owner (owned other plan (sym same) n owner owns) in
      (bridges plan other same owner found.0, (found.1.0, on_buses plan other same n found.1.0 found.1.1, on_buses plan other same owner found.1.0 found.1.2))

  in_pool : (n e : ℕ) → IsInPoolOf plan n e → IsInPoolOf other n e
  unfolding IsInPoolOf
  in_pool n e (pool, is, lies) = (pool, sym (pools plan other same n) ∙ is, lies)

-- the owners of two nodes are the same in the other plan too
same_owner : (plan other : Plan) → plan_value plan ≡ plan_value other → (n m : ℕ) → owner_of plan n ≡ owner_of plan m → owner_of other n ≡ owner_of other m
same_owner plan other same n m is = sym (owners plan other same n) ∙ (is ∙ owners plan other same m)

module _ (plan other : Plan) (same : plan_value plan ≡ plan_value other) where
  in_owners_pool : (n e : ℕ) → IsInOwnersPool plan n e → IsInOwnersPool other n e
  unfolding IsInOwnersPool
  in_owners_pool n e lies owner owns = in_pool plan other same owner e (lies owner (owned other plan (sym same) n owner owns))

  in_no_peers_pool : (n e : ℕ) → IsInNoPeersPool plan n e → IsInNoPeersPool other n e
  unfolding IsInNoPeersPool
  in_no_peers_pool n e none peer bridge peers lies =
      none peer (bridges other plan (sym same) peer bridge) (same_owner other plan (sym same) peer n peers) (in_pool other plan (sym same) peer e lies)

  in_its_pool : (n e : ℕ) → IsInItsPool plan n e → IsInItsPool other n e
  unfolding IsInItsPool
  in_its_pool n e (lies, none) = (in_owners_pool n e lies, in_no_peers_pool n e none)

  lies_in : (n : ℕ) (pool : Pool) → LiesInOwnersPool plan n pool → LiesInOwnersPool other n pool
  unfolding LiesInOwnersPool
  lies_in n pool lies owner owns e inside = in_pool plan other same owner e (lies owner (owned other plan (sym same) n owner owns) e inside)

  lies_apart : (n : ℕ) (pool : Pool) → LiesApartFromEarlierPools plan n pool → LiesApartFromEarlierPools other n pool
  unfolding LiesApartFromEarlierPools
  lies_apart n pool apart m less peers e inside lies = apart m less (same_owner other plan (sym same) m n peers) e inside (in_pool other plan (sym same) m e lies)

  lawful_pool : (n : ℕ) → HasLawfulPool plan n → HasLawfulPool other n
  unfolding HasLawfulPool IsLawfulPool
  lawful_pool n has pool is =
      let lawful = has pool (pools plan other same n ∙ is) in
      (bridges plan other same n lawful.0, lawful.1, lies_in n pool lawful.2, lies_apart n pool lawful.3)

  -- on along the rows of one plan, or of two
  pub led_by : (after after' : Option Plan) → ((n e : ℕ) → HasRowInBoth plan after n e → HasRowInBoth other after' n e) → (n e m : ℕ)
      → IsLedOn (record { plan = plan; after = after }) n e m → IsLedOn (record { plan = other; after = after' }) n e m
  unfolding IsLedOn
  led_by after after' to n e m led holder holds away = elim (led holder (held other plan (sym same) holder e holds) away) [
    | inl here ↦ inl (held plan other same m e here)
    | inr (bridge, row) ↦ inr (bridges plan other same m bridge, to m e row)
  ]

  has_records : (n : ℕ) → HasRecords plan n → HasRecords other n
  unfolding HasRecords
  has_records n has some = omega (
    arith,
    as_many record_value (records_of plan n) (records_of other n) (records plan other same n),
    has (λ none. some (by (terminus_of plan n) (terminus_of other n) (termini plan other same n) none)),
  )
    where
      by : (o p : Option PlannedTerminus) → option_map terminus_value o ≡ option_map terminus_value p → o ≡ None → p ≡ None
      by o None alike none = refl
      by o (Some t) alike none = absurd (none-some (terminus_value t) (ap (option_map terminus_value) (sym none) ∙ alike))

  held_by_terminus : (tid e : ℕ) → IsHeldByTerminus plan tid e → IsHeldByTerminus other tid e
  unfolding IsHeldByTerminus
  held_by_terminus tid e (n, holds, t, is, tids) = (let s = by (terminus_of plan n) (terminus_of other n) (termini plan other same n) is in (n, held plan other same n e holds, s.0, s.1, s.2 ∙ tids))
    where
      by : (o p : Option PlannedTerminus) → option_map terminus_value o ≡ option_map terminus_value p → o ≡ Some t → (s : PlannedTerminus) × (p ≡ Some s) × (s.tid ≡ t.tid)
      by None p alike is = absurd (none-some t is)
      by (Some u) None alike is = absurd (none-some (terminus_value u) (sym alike))
      by (Some u) (Some s) alike is =
          (s, refl, ap (λ (v : TerminusValue). v.tid) (same_Some (terminus_value s) (terminus_value u) (sym alike)) ∙ ap (λ (x : PlannedTerminus). x.tid) (same_Some u t is))

  locates : (r s : PlannedRecord) (e : ℕ) → record_value r ≡ record_value s → LocatesTerminus plan r e → LocatesTerminus other s e
  unfolding LocatesTerminus
  locates r s e alike located tid is = held_by_terminus tid e (located tid (locator s r (sym alike) tid (e ∷ []) is))

  pub plan_demands : (rule : Rule) (n : ℕ) (entry eid : Option ℕ) → PlanDemands plan rule n entry eid → PlanDemands other rule n entry eid
  plan_demands C01 n entry eid met = at_node (HasNewName plan n) (HasNewName other n) (new_name plan other same n) entry eid met
  plan_demands C02 n entry eid met = at_its_eid plan other same n IsAssignable IsAssignable (λ e assignable. assignable) entry eid met
  plan_demands C03 n entry eid met = at_its_eid plan other same n (IsNewlyHeld plan n) (IsNewlyHeld other n) (newly_held plan other same n) entry eid met
  plan_demands C04 n entry eid met = (let D : List Row → Type 0 = λ table. AtItem table (λ _ row. IsInRange row) entry eid in subst D (rows plan other same n) met)
  plan_demands C05 n entry eid met = (let D : List Row → Type 0 = λ table. AtItem table (IsApartFromEarlier table) entry eid in subst D (rows plan other same n) met)
  plan_demands C06 n entry eid met =
      let D : List Row → Type 0 = λ table. AtItem table (λ _ row. NamesNeighbor plan n row) entry eid in
      at_row (rows_of other n) (λ _ row. NamesNeighbor plan n row) (λ _ row. NamesNeighbor other n row) (λ _ row. neighbor plan other same n row) entry eid (subst D (rows plan other same n) met)
  plan_demands C07 n entry eid met = at_node (HasBridgeAsOwner plan n) (HasBridgeAsOwner other n) (bridge_owns plan other same n) entry eid met
  plan_demands C08 n entry eid met = at_its_eid plan other same n (IsInItsPool plan n) (IsInItsPool other n) (in_its_pool n) entry eid met
  plan_demands C09 n entry eid met = at_node (HasLawfulPool plan n) (HasLawfulPool other n) (lawful_pool n) entry eid met
  plan_demands C10 n entry eid met = tt
  plan_demands C11 n entry eid met =
      at_row_eid plan other same n (λ row e. IsLedOn (one_plan plan) n e row.next) (λ row e. IsLedOn (one_plan other) n e row.next)
      (λ row e led. led_by None None (has_row plan other same) n e row.next led) entry eid met
  plan_demands C12 n entry eid met =
      at_node_or_item (records_of plan n) (records_of other n) (records plan other same n) (HasRecords plan n) (HasRecords other n) (has_records n) (HasNewHandle (records_of plan n)) (HasNewHandle (records_of other n))
      (new_handle (records_of plan n) (records_of other n) (records plan other same n)) entry eid met
  plan_demands C13 n entry eid met =
      at_item (records_of plan n) (records_of other n) (records plan other same n) (λ _ r. IsRecordOf r.handle r.bytes.items) (λ _ r. IsRecordOf r.handle r.bytes.items) (λ _ r s. spelled r s) entry eid met
  plan_demands C14 n entry eid met = tt
  plan_demands C15 n entry eid met =
      at_item_or_eid (records_of plan n) (records_of other n) (records plan other same n) HasOneByteAsEid HasOneByteAsEid (LocatesTerminus plan) (LocatesTerminus other) one_byte locates entry eid met
  plan_demands C16 n entry eid met = tt

-- ---- of certificates

module _ (plan other : Plan) (cert cert' : Certificate) (same : plan_value plan ≡ plan_value other) (same' : certificate_value cert ≡ certificate_value cert') where
  below_owner : (n : ℕ) → IsBelowItsOwner plan cert n → IsBelowItsOwner other cert' n
  unfolding IsBelowItsOwner
  below_owner n below owner owns =
      let level_of : (m : ℕ) → level plan cert m ≡ level other cert' m = levels_are plan other cert cert' same same' in
      omega (arith, below owner (owned other plan (sym same) n owner owns), level_of owner, level_of n)

  falls : (n : ℕ) (row : Row) (e : ℕ) → Falls plan cert n row e → Falls other cert' n row e
  unfolding Falls
  falls n row e fall away = omega (arith, fall (unheld other plan (sym same) n e away), ranks cert cert' same' row.next e, ranks cert cert' same' n e)

  pub needs_given : (n : ℕ) → NeedsWhatItIsGiven plan cert n → NeedsWhatItIsGiven other cert' n
  unfolding NeedsWhatItIsGiven NeedsItsLevel NeedsItsPlaces
  needs_given n needs within =
      let need = needs (omega (arith, within, many plan other same)) in (
        λ none. sym (levels cert cert' same' n) ∙ need.0 (owners plan other same n ∙ none),
        omega (arith, need.1, ap length (places cert cert' same' n), as_many record_value (records_of plan n) (records_of other n) (records plan other same n)),
      )

  pub needs_rank : (after after' : Option Plan) → ((n e : ℕ) → HasRowInEither plan after n e → HasRowInEither other after' n e) → (n e : ℕ)
      → NeedsItsRank (record { plan = plan; after = after }) cert n e → NeedsItsRank (record { plan = other; after = after' }) cert' n e
  unfolding NeedsItsRank
  needs_rank after after' to n e needs within byte some =
      let need = needs (omega (arith, within, many plan other same)) byte (λ none. some (sym (ranks cert cert' same' n e) ∙ none)) in
      (unheld plan other same n e need.0, to n e need.1)

  certificate_demands : (rule : Rule) (n : ℕ) (entry eid : Option ℕ) → CertificateDemands plan cert rule n entry eid → CertificateDemands other cert' rule n entry eid
  certificate_demands C01 n entry eid met = tt
  certificate_demands C02 n entry eid met = tt
  certificate_demands C03 n entry eid met = tt
  certificate_demands C04 n entry eid met = tt
  certificate_demands C05 n entry eid met = tt
  certificate_demands C06 n entry eid met = tt
  certificate_demands C07 n entry eid met = at_node (IsBelowItsOwner plan cert n) (IsBelowItsOwner other cert' n) (below_owner n) entry eid met
  certificate_demands C08 n entry eid met = tt
  certificate_demands C09 n entry eid met = tt
  certificate_demands C10 n entry eid met = at_row_eid plan other same n (Falls plan cert n) (Falls other cert' n) (falls n) entry eid met
  certificate_demands C11 n entry eid met = tt
  certificate_demands C12 n entry eid met = tt
  certificate_demands C13 n entry eid met = tt
  certificate_demands C14 n entry eid met =
      let D : List ℕ → Type 0 = λ given. AtItem (records_of other n) (IsChained (records_of other n) given) entry eid in
      subst D (places cert cert' same' n)
      (at_item (records_of plan n) (records_of other n) (records plan other same n) (IsChained (records_of plan n) (places_of cert n)) (IsChained (records_of other n) (places_of cert n))
      (chained (records_of plan n) (records_of other n) (records plan other same n) (places_of cert n)) entry eid met)
  certificate_demands C15 n entry eid met = tt
  certificate_demands C16 n entry eid met =
      at_node_or_eid (NeedsWhatItIsGiven plan cert n) (NeedsWhatItIsGiven other cert' n) (NeedsItsRank (one_plan plan) cert n) (NeedsItsRank (one_plan other) cert' n)
      (needs_given n) (needs_rank None None (has_row plan other same) n) entry eid met

  pub demands : (rule : Rule) (n : ℕ) (entry eid : Option ℕ) → Demands plan cert rule n entry eid → Demands other cert' rule n entry eid
  demands rule n entry eid (met, met') = (plan_demands plan other same rule n entry eid met, certificate_demands rule n entry eid met')
