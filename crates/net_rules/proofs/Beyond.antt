-- Beyond the plan's nodes no rule demands anything.
use Rattle.std.{proofs.Common.{◌≡◌, ℕ, ◌≤◌, length, List, [], Option, Some, None, refl, arith}, specs.Prelude.{slice_get}, proofs.lemmas.Option.{slice_get_past}}
use Rattle.mctp_transport.specs.PacketValues.{IsAssignable}
use Rattle.net_rules.{specs.declared.rule.Rule.{Rule}, specs.declared.rule.Rule.TheVariants.{C01, C02, C03, C04, C05, C06, C07, C08, C09, C10, C11, C12, C13, C14, C15, C16}, specs.Owners.{HasBridgeAsOwner, IsBelowItsOwner}, specs.Pools.{IsInItsPool, HasLawfulPool}, specs.HeldEids.{IsLedOn}, specs.Locators.{HasOneByteAsEid, LocatesTerminus}, specs.Superfluous.{NeedsWhatItIsGiven, NeedsItsRank}, specs.Names.{name_of, HaveOneName, HasNewName}, specs.Eids.{IsNewlyHeld}, specs.Rules.{AtNode, AtItsEid, AtNodeOrEid, AtItem, AtNodeOrItem, AtRowEid, AtItemOrEid, PlanDemands, CertificateDemands, Demands}}
use Rattle.plan_values.{specs.declared.plan.Plan.{Plan}, specs.declared.nodes.Row.{Row}, specs.declared.certificate.Certificate.{Certificate}, specs.declared.nodes.Pool.{Pool}}
use Rattle.pdr_repository.specs.Records.{IsRecordOf}
use Rattle.net_tables.{specs.Routing.{Holds, rows_of, OfItem}, specs.Ownership.{IsOwnedBy, pool_of}, specs.TwoPlans.{Tables, one_plan}, specs.Repositories.{terminus_of, records_of, places_of, HasRecords, HasNewHandle, IsChained}, specs.Rows.{IsInRange, IsApartFromEarlier, NamesNeighbor}, specs.Ranks.{Falls}}

pub no_row : (plan : Plan) (n r : ℕ) (row : Row) → length plan.nodes.items ≤ n → slice_get (rows_of plan n) r ≡ Some row → ⊥
no_row plan n r row past = rw (slice_get_past plan.nodes.items n past) (λ is. cc)

no_holder : (plan : Plan) (n e : ℕ) → length plan.nodes.items ≤ n → Holds plan n e → ⊥
no_holder plan n e past = rw (slice_get_past plan.nodes.items n past) (λ is. cc)

pub no_name : (plan : Plan) (n : ℕ) (name : List ℕ) → length plan.nodes.items ≤ n → name_of plan n ≡ Some name → ⊥
no_name plan n name past = rw (slice_get_past plan.nodes.items n past) (λ is. cc)

new_name : (plan : Plan) (n : ℕ) → length plan.nodes.items ≤ n → HasNewName plan n
unfolding HasNewName HaveOneName
new_name plan n past m lt (name, earlier, here) = no_name plan n name past here

pub at_node : (P : Type 0) (entry eid : Option ℕ) → P → AtNode P entry eid
at_node P None None p = p
at_node P None (Some e) p = tt
at_node P (Some r) eid p = tt

at_eid : (plan : Plan) (n : ℕ) (P : ℕ → Type 0) (entry eid : Option ℕ) → length plan.nodes.items ≤ n → AtItsEid plan n P entry eid
at_eid plan n P None None past = tt
at_eid plan n P None (Some e) past = λ holds. absurd (no_holder plan n e past holds)
at_eid plan n P (Some r) eid past = tt

no_items : {A : Type 0} (items : List A) (i : ℕ) (P : A → Type 0) → items ≡ [] → OfItem items i P
no_items items i P none item = rw none (λ is. cc)

at_item : {A : Type 0} (items : List A) (P : ℕ → A → Type 0) (entry eid : Option ℕ) → items ≡ [] → AtItem items P entry eid
at_item items P None eid none = tt
at_item items P (Some i) None none = no_items items i (P i) none
at_item items P (Some i) (Some e) none = tt

at_node_or_item : {A : Type 0} (P : Type 0) (items : List A) (Q : ℕ → A → Type 0) (entry eid : Option ℕ) → P → items ≡ [] → AtNodeOrItem P items Q entry eid
at_node_or_item P items Q None None p none = p
at_node_or_item P items Q None (Some e) p none = tt
at_node_or_item P items Q (Some i) None p none = no_items items i (Q i) none
at_node_or_item P items Q (Some i) (Some e) p none = tt

at_item_or_eid : {A : Type 0} (items : List A) (P : A → Type 0) (Q : A → ℕ → Type 0) (entry eid : Option ℕ) → items ≡ [] → AtItemOrEid items P Q entry eid
at_item_or_eid items P Q None eid none = tt
at_item_or_eid items P Q (Some i) None none = no_items items i P none
at_item_or_eid items P Q (Some i) (Some e) none = no_items items i (λ item. Q item e) none

pub at_node_or_eid : (P : Type 0) (Q : ℕ → Type 0) (entry eid : Option ℕ) → P → ((e : ℕ) → Q e) → AtNodeOrEid P Q entry eid
at_node_or_eid P Q None None p q = p
at_node_or_eid P Q None (Some e) p q = q e
at_node_or_eid P Q (Some i) eid p q = tt

pub at_row_eid : (plan : Plan) (n : ℕ) (P : Row → ℕ → Type 0) (entry eid : Option ℕ) → length plan.nodes.items ≤ n → AtRowEid plan n P entry eid
at_row_eid plan n P None eid past = tt
at_row_eid plan n P (Some r) None past = tt
at_row_eid plan n P (Some r) (Some e) past = λ row is. absurd (no_row plan n r row past is)

-- a node beyond the plan has nothing
pub no_rows : (plan : Plan) (n : ℕ) → length plan.nodes.items ≤ n → rows_of plan n ≡ []
no_rows plan n past = rw (slice_get_past plan.nodes.items n past) refl

no_terminus : (plan : Plan) (n : ℕ) → length plan.nodes.items ≤ n → terminus_of plan n ≡ None
no_terminus plan n past = rw (slice_get_past plan.nodes.items n past) refl

pub no_records : (plan : Plan) (n : ℕ) → length plan.nodes.items ≤ n → records_of plan n ≡ []
no_records plan n past = rw (slice_get_past plan.nodes.items n past) refl

pub no_owner : (plan : Plan) (n owner : ℕ) → length plan.nodes.items ≤ n → IsOwnedBy plan n owner → ⊥
no_owner plan n owner past = rw (slice_get_past plan.nodes.items n past) (λ is. cc)

no_pool : (plan : Plan) (n : ℕ) (pool : Pool) → length plan.nodes.items ≤ n → pool_of plan n ≡ Some pool → ⊥
no_pool plan n pool past = rw (slice_get_past plan.nodes.items n past) (λ is. cc)

bridge_owns : (plan : Plan) (n : ℕ) → length plan.nodes.items ≤ n → HasBridgeAsOwner plan n
unfolding HasBridgeAsOwner
bridge_owns plan n past owner is = absurd (no_owner plan n owner past is)

below_owner : (plan : Plan) (cert : Certificate) (n : ℕ) → length plan.nodes.items ≤ n → IsBelowItsOwner plan cert n
unfolding IsBelowItsOwner
below_owner plan cert n past owner is = absurd (no_owner plan n owner past is)

lawful_pool : (plan : Plan) (n : ℕ) → length plan.nodes.items ≤ n → HasLawfulPool plan n
unfolding HasLawfulPool
lawful_pool plan n past pool is = absurd (no_pool plan n pool past is)

has_records : (plan : Plan) (n : ℕ) → length plan.nodes.items ≤ n → HasRecords plan n
unfolding HasRecords
has_records plan n past some = absurd (some (no_terminus plan n past))

pub needs_given : (plan : Plan) (cert : Certificate) (n : ℕ) → length plan.nodes.items ≤ n → NeedsWhatItIsGiven plan cert n
unfolding NeedsWhatItIsGiven
needs_given plan cert n past within = absurd (omega arith)

pub needs_rank : (tables : Tables) (cert : Certificate) (n e : ℕ) → length tables.plan.nodes.items ≤ n → NeedsItsRank tables cert n e
unfolding NeedsItsRank
needs_rank tables cert n e past within = absurd (omega arith)

-- of the plan
pub plan_beyond : (plan : Plan) (rule : Rule) (n : ℕ) (entry eid : Option ℕ) → length plan.nodes.items ≤ n → PlanDemands plan rule n entry eid
plan_beyond plan C01 n entry eid past = at_node (HasNewName plan n) entry eid (new_name plan n past)
plan_beyond plan C02 n entry eid past = at_eid plan n IsAssignable entry eid past
plan_beyond plan C03 n entry eid past = at_eid plan n (IsNewlyHeld plan n) entry eid past
plan_beyond plan C04 n entry eid past = at_item (rows_of plan n) (λ _ row. IsInRange row) entry eid (no_rows plan n past)
plan_beyond plan C05 n entry eid past = at_item (rows_of plan n) (IsApartFromEarlier (rows_of plan n)) entry eid (no_rows plan n past)
plan_beyond plan C06 n entry eid past = at_item (rows_of plan n) (λ _ row. NamesNeighbor plan n row) entry eid (no_rows plan n past)
plan_beyond plan C07 n entry eid past = at_node (HasBridgeAsOwner plan n) entry eid (bridge_owns plan n past)
plan_beyond plan C08 n entry eid past = at_eid plan n (IsInItsPool plan n) entry eid past
plan_beyond plan C09 n entry eid past = at_node (HasLawfulPool plan n) entry eid (lawful_pool plan n past)
plan_beyond plan C10 n entry eid past = tt
plan_beyond plan C11 n entry eid past = at_row_eid plan n (λ row e. IsLedOn (one_plan plan) n e row.next) entry eid past
plan_beyond plan C12 n entry eid past = at_node_or_item (HasRecords plan n) (records_of plan n) (HasNewHandle (records_of plan n)) entry eid (has_records plan n past) (no_records plan n past)
plan_beyond plan C13 n entry eid past = at_item (records_of plan n) (λ _ r. IsRecordOf r.handle r.bytes.items) entry eid (no_records plan n past)
plan_beyond plan C14 n entry eid past = tt
plan_beyond plan C15 n entry eid past = at_item_or_eid (records_of plan n) HasOneByteAsEid (LocatesTerminus plan) entry eid (no_records plan n past)
plan_beyond plan C16 n entry eid past = tt

-- of the certificate
certificate_beyond : (plan : Plan) (cert : Certificate) (rule : Rule) (n : ℕ) (entry eid : Option ℕ) → length plan.nodes.items ≤ n → CertificateDemands plan cert rule n entry eid
certificate_beyond plan cert C01 n entry eid past = tt
certificate_beyond plan cert C02 n entry eid past = tt
certificate_beyond plan cert C03 n entry eid past = tt
certificate_beyond plan cert C04 n entry eid past = tt
certificate_beyond plan cert C05 n entry eid past = tt
certificate_beyond plan cert C06 n entry eid past = tt
certificate_beyond plan cert C07 n entry eid past = at_node (IsBelowItsOwner plan cert n) entry eid (below_owner plan cert n past)
certificate_beyond plan cert C08 n entry eid past = tt
certificate_beyond plan cert C09 n entry eid past = tt
certificate_beyond plan cert C10 n entry eid past = at_row_eid plan n (Falls plan cert n) entry eid past
certificate_beyond plan cert C11 n entry eid past = tt
certificate_beyond plan cert C12 n entry eid past = tt
certificate_beyond plan cert C13 n entry eid past = tt
certificate_beyond plan cert C14 n entry eid past = at_item (records_of plan n) (IsChained (records_of plan n) (places_of cert n)) entry eid (no_records plan n past)
certificate_beyond plan cert C15 n entry eid past = tt
certificate_beyond plan cert C16 n entry eid past = at_node_or_eid (NeedsWhatItIsGiven plan cert n) (NeedsItsRank (one_plan plan) cert n) entry eid (needs_given plan cert n past) (λ e. needs_rank (one_plan plan) cert n e past)

pub beyond : (plan : Plan) (cert : Certificate) (rule : Rule) (n : ℕ) (entry eid : Option ℕ) → length plan.nodes.items ≤ n → Demands plan cert rule n entry eid
beyond plan cert rule n entry eid past = (plan_beyond plan rule n entry eid past, certificate_beyond plan cert rule n entry eid past)
