-- The rules of a plan and its certificate: what each demands, and where.
use Rattle.std.specs.Prelude.{ℕ, List, Option, Some, None, ⊤, codes}
use Rattle.mctp_transport.specs.PacketValues.{IsAssignable}
use Rattle.net_rules.{specs.declared.rule.Rule.{Rule}, specs.declared.rule.Rule.TheVariants.{C01, C02, C03, C04, C05, C06, C07, C08, C09, C10, C11, C12, C13, C14, C15, C16}, specs.Names.{HasNewName}, specs.Eids.{IsNewlyHeld}, specs.Owners.{HasBridgeAsOwner, IsBelowItsOwner}, specs.Pools.{IsInItsPool, HasLawfulPool}, specs.HeldEids.{IsLedOn}, specs.Locators.{HasOneByteAsEid, LocatesTerminus}, specs.Superfluous.{NeedsWhatItIsGiven, NeedsItsRank}}
use Rattle.plan_values.{specs.declared.plan.Plan.{Plan}, specs.declared.nodes.Row.{Row}, specs.declared.certificate.Certificate.{Certificate}}
use Rattle.net_tables.{specs.Routing.{rows_of, Holds, Covers, OfItem}, specs.TwoPlans.{one_plan}, specs.Rows.{IsInRange, IsApartFromEarlier, NamesNeighbor}, specs.Ranks.{Falls}, specs.Repositories.{records_of, places_of, HasRecords, HasNewHandle, IsChained}}
use Rattle.pdr_repository.specs.Records.{IsRecordOf}

-- the code that users see
abbrev pub code_of : Rule → List ℕ
code_of C01 = codes "C01"
code_of C02 = codes "C02"
code_of C03 = codes "C03"
code_of C04 = codes "C04"
code_of C05 = codes "C05"
code_of C06 = codes "C06"
code_of C07 = codes "C07"
code_of C08 = codes "C08"
code_of C09 = codes "C09"
code_of C10 = codes "C10"
code_of C11 = codes "C11"
code_of C12 = codes "C12"
code_of C13 = codes "C13"
code_of C14 = codes "C14"
code_of C15 = codes "C15"
code_of C16 = codes "C16"

-- Where a rule speaks: at the node alone, at the node's EID, at each EID, at each item of a list (the node's rows, or
-- the records of its terminus), at each EID of a row or of a record. Elsewhere it demands nothing.
abbrev pub AtNode : Type 0 → Option ℕ → Option ℕ → Type 0
AtNode P None None = P
AtNode P None (Some e) = ⊤
AtNode P (Some i) eid = ⊤

abbrev pub AtItsEid : Plan → ℕ → (ℕ → Type 0) → Option ℕ → Option ℕ → Type 0
AtItsEid plan n P None (Some e) = Holds plan n e → P e
AtItsEid plan n P None None = ⊤
AtItsEid plan n P (Some i) eid = ⊤

abbrev pub AtNodeOrEid : Type 0 → (ℕ → Type 0) → Option ℕ → Option ℕ → Type 0
AtNodeOrEid P Q None None = P
AtNodeOrEid P Q None (Some e) = Q e
AtNodeOrEid P Q (Some i) eid = ⊤

abbrev pub AtItem : {A : Type 0} → List A → (ℕ → A → Type 0) → Option ℕ → Option ℕ → Type 0
AtItem items P (Some i) None = OfItem items i (P i)
AtItem items P (Some i) (Some e) = ⊤
AtItem items P None eid = ⊤

abbrev pub AtNodeOrItem : {A : Type 0} → Type 0 → List A → (ℕ → A → Type 0) → Option ℕ → Option ℕ → Type 0
AtNodeOrItem P items Q None None = P
AtNodeOrItem P items Q None (Some e) = ⊤
AtNodeOrItem P items Q (Some i) None = OfItem items i (Q i)
AtNodeOrItem P items Q (Some i) (Some e) = ⊤

abbrev pub AtRowEid : Plan → ℕ → (Row → ℕ → Type 0) → Option ℕ → Option ℕ → Type 0
AtRowEid plan n P (Some r) (Some e) = OfItem (rows_of plan n) r (λ row. Covers row e → P row e)
AtRowEid plan n P (Some r) None = ⊤
AtRowEid plan n P None eid = ⊤

abbrev pub AtItemOrEid : {A : Type 0} → List A → (A → Type 0) → (A → ℕ → Type 0) → Option ℕ → Option ℕ → Type 0
AtItemOrEid items P Q (Some i) None = OfItem items i P
AtItemOrEid items P Q (Some i) (Some e) = OfItem items i (λ item. Q item e)
AtItemOrEid items P Q None eid = ⊤

-- What each rule demands of the plan, whatever the certificate, at a node, an entry and an EID.
abbrev pub PlanDemands : Plan → Rule → ℕ → Option ℕ → Option ℕ → Type 0
PlanDemands plan C01 n entry eid = AtNode (HasNewName plan n) entry eid
PlanDemands plan C02 n entry eid = AtItsEid plan n IsAssignable entry eid
PlanDemands plan C03 n entry eid = AtItsEid plan n (IsNewlyHeld plan n) entry eid
PlanDemands plan C04 n entry eid = AtItem (rows_of plan n) (λ _ row. IsInRange row) entry eid
PlanDemands plan C05 n entry eid = AtItem (rows_of plan n) (IsApartFromEarlier (rows_of plan n)) entry eid
PlanDemands plan C06 n entry eid = AtItem (rows_of plan n) (λ _ row. NamesNeighbor plan n row) entry eid
PlanDemands plan C07 n entry eid = AtNode (HasBridgeAsOwner plan n) entry eid
PlanDemands plan C08 n entry eid = AtItsEid plan n (IsInItsPool plan n) entry eid
PlanDemands plan C09 n entry eid = AtNode (HasLawfulPool plan n) entry eid
PlanDemands plan C10 n entry eid = ⊤
PlanDemands plan C11 n entry eid = AtRowEid plan n (λ row e. IsLedOn (one_plan plan) n e row.next) entry eid
PlanDemands plan C12 n entry eid =
    AtNodeOrItem (HasRecords plan n) (records_of plan n) (HasNewHandle (records_of plan n)) entry eid
PlanDemands plan C13 n entry eid = AtItem (records_of plan n) (λ _ r. IsRecordOf r.handle r.bytes.items) entry eid
PlanDemands plan C14 n entry eid = ⊤
PlanDemands plan C15 n entry eid = AtItemOrEid (records_of plan n) HasOneByteAsEid (LocatesTerminus plan) entry eid
PlanDemands plan C16 n entry eid = ⊤

-- What each rule demands of the certificate.
abbrev pub CertificateDemands : Plan → Certificate → Rule → ℕ → Option ℕ → Option ℕ → Type 0
CertificateDemands plan cert C01 n entry eid = ⊤
CertificateDemands plan cert C02 n entry eid = ⊤
CertificateDemands plan cert C03 n entry eid = ⊤
CertificateDemands plan cert C04 n entry eid = ⊤
CertificateDemands plan cert C05 n entry eid = ⊤
CertificateDemands plan cert C06 n entry eid = ⊤
CertificateDemands plan cert C07 n entry eid = AtNode (IsBelowItsOwner plan cert n) entry eid
CertificateDemands plan cert C08 n entry eid = ⊤
CertificateDemands plan cert C09 n entry eid = ⊤
CertificateDemands plan cert C10 n entry eid = AtRowEid plan n (Falls plan cert n) entry eid
CertificateDemands plan cert C11 n entry eid = ⊤
CertificateDemands plan cert C12 n entry eid = ⊤
CertificateDemands plan cert C13 n entry eid = ⊤
CertificateDemands plan cert C14 n entry eid =
    AtItem (records_of plan n) (IsChained (records_of plan n) (places_of cert n)) entry eid
CertificateDemands plan cert C15 n entry eid = ⊤
CertificateDemands plan cert C16 n entry eid =
    AtNodeOrEid (NeedsWhatItIsGiven plan cert n) (NeedsItsRank (one_plan plan) cert n) entry eid

-- All that a rule demands at a node, an entry and an EID.
abbrev pub Demands : Plan → Certificate → Rule → ℕ → Option ℕ → Option ℕ → Type 0
Demands plan cert rule n entry eid = PlanDemands plan rule n entry eid × CertificateDemands plan cert rule n entry eid

-- the rule holds everywhere
abbrev pub RuleHolds : Plan → Certificate → Rule → Type 0
RuleHolds plan cert rule = (n : ℕ) (entry eid : Option ℕ) → Demands plan cert rule n entry eid

-- each rule holds everywhere
abbrev pub Accepts : Plan → Certificate → Type 0
Accepts plan cert = (rule : Rule) → RuleHolds plan cert rule
