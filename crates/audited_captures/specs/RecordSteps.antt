-- How the code goes from one exchange about records to the next.
use Rattle.std.{specs.Prelude.{◌≡◌, ◌⊎◌, ◌↔◌, ℕ, ◌+◌, ◌<◌, ◌==◌, ◌&&◌, Bool, true, false, List, [], ◌∷◌, length, drop, slice_get, Option, Some, None, not, if◌then◌else◌}, specs.List.{flat_map}}
use Rattle.pldm_message.specs.Pdrs.{PartRequest, Part}
use Rattle.pdr_repository.specs.Records.{Entry, handle_at}
use Rattle.audited_captures.{specs.AsPlanned.{IsAmong}, specs.RecordParts.{RecordPartValue}, specs.RecordPlans.{IsFaultFrom}, specs.RecordReadings.{place_of, IsToldAt, IsPartAt, Begins, IsRefused}, specs.declared.record_readings.Lead.{Lead}, specs.declared.record_readings.Verdict.{Verdict}, specs.declared.record_faults.RecordFault.{RecordFault}}
use Rattle.audited_captures.specs.declared.record_readings.Verdict.TheVariants as verdict

-- the offset to which a handle leads, of this record
abbrev pub start_if : (place handle : ℕ) → Lead → List ℕ
start_if place handle lead = if lead.place == place && lead.handle == handle then lead.offset ∷ [] else []

-- where a request for the record at a place may begin, by the handles that were handed out
abbrev pub starts_of : (place : ℕ) → PartRequest → List Lead → List ℕ
starts_of place r leads =
    if r.operation == 1 then 0 ∷ []
    else if r.operation == 0 then flat_map (start_if place r.transfer) leads else []

-- the answer hands this out, where the request begins at the offset
pub record IsLeadFrom (records : List Entry) (offset : ℕ) (x : RecordPartValue) (lead : Lead) : Type 0 where
  pub part : Part
  pub is : IsPartAt records lead.place offset x part true
  pub handed : lead.handle ≡ part.transfer
  pub leads : lead.offset ≡ offset + length part.bytes

-- this was handed out by one of the first k exchanges
pub record IsLead (records : List Entry) (parts : List RecordPartValue) (k : ℕ) (lead : Lead) : Type 0 where
  pub index : ℕ
  pub offset : ℕ
  pub exchange : RecordPartValue
  pub before : index < k
  pub at : slice_get parts index ≡ Some exchange
  pub begins : Begins records parts index lead.place offset
  pub hands : IsLeadFrom records offset exchange lead

abbrev pub AreLeads : List Entry → List RecordPartValue → (k : ℕ) → List Lead → Type 0
AreLeads records parts k leads = (lead : Lead) → IsAmong lead leads ↔ IsLead records parts k lead

abbrev pub bytes_of : Option Entry → List ℕ
bytes_of None = []
bytes_of (Some e) = e.bytes

-- the first verdict if it is that all is as planned, else the second
abbrev pub better : (first second : Verdict) → Verdict
better verdict.Unknown second = second
better verdict.Refused second = verdict.Refused
better (verdict.Reads at is_end) second = verdict.Reads at is_end
better (verdict.Extra handle) second = second
better (verdict.Differs at f) second = second

-- how many bytes the record at the place has from the offset on
abbrev pub left_from : List Entry → (place offset : ℕ) → ℕ
left_from records place offset = length (drop offset (bytes_of (slice_get records place)))

-- this is wrong with what was told of the record at the place from the offset on
abbrev pub IsFaultAt : List Entry → (place offset : ℕ) → RecordPartValue → RecordFault → Type 0
IsFaultAt records place offset x f = (e : Entry) × (slice_get records place ≡ Some e)
    × IsFaultFrom (handle_at records (place + 1)) e.bytes offset x f

-- the handles that an answer hands out were added, where its request begins at one of these offsets
abbrev pub AddsLeads : List Entry → (place : ℕ) → (starts : List ℕ) → RecordPartValue → (old new : List Lead) → Type 0
AddsLeads records place starts x old new = (lead : Lead) → IsAmong lead new
    ↔ (IsAmong lead old
    ⊎ ((offset : ℕ) × IsAmong offset starts × (lead.place ≡ place) × IsLeadFrom records offset x lead))

-- the verdict on an answer whose request begins at the offset
abbrev pub IsVerdictAt : List Entry → (place offset : ℕ) → RecordPartValue → Verdict → Type 0
IsVerdictAt records place offset x verdict.Unknown = ⊥
IsVerdictAt records place offset x (verdict.Extra handle) = ⊥
IsVerdictAt records place offset x verdict.Refused = IsRefused x × IsToldAt records place offset x
IsVerdictAt records place offset x (verdict.Reads at is_end) =
    (at ≡ place) × ((p : Part) × (left : Bool) × IsPartAt records place offset x p left × (is_end ≡ not left))
IsVerdictAt records place offset x (verdict.Differs at f) =
    (at ≡ place) × IsFaultAt records place offset x f

-- and where it may begin at any of these: where it is as planned from one on, it is so
abbrev pub IsVerdictOver : List Entry → (place : ℕ) → (IsStart : ℕ → Type 0) → RecordPartValue → Verdict → Type 0
IsVerdictOver records place IsStart x verdict.Unknown = (offset : ℕ) → ¬ IsStart offset
IsVerdictOver records place IsStart x (verdict.Extra handle) = ⊥
IsVerdictOver records place IsStart x verdict.Refused =
    (offset : ℕ) × IsStart offset × IsVerdictAt records place offset x verdict.Refused
IsVerdictOver records place IsStart x (verdict.Reads at is_end) =
    (offset : ℕ) × IsStart offset × IsVerdictAt records place offset x (verdict.Reads at is_end)
IsVerdictOver records place IsStart x (verdict.Differs at f) =
    ((offset : ℕ) × IsStart offset × IsVerdictAt records place offset x (verdict.Differs at f))
    × ((offset : ℕ) → IsStart offset → ¬ IsToldAt records place offset x)

-- the verdict on the answer about a record that isn't planned
abbrev pub IsVerdictBeside : RecordPartValue → Verdict → Type 0
IsVerdictBeside x verdict.Refused = IsRefused x
IsVerdictBeside x (verdict.Extra handle) = (handle ≡ x.asked.handle) × ¬ IsRefused x
IsVerdictBeside x verdict.Unknown = ⊥
IsVerdictBeside x (verdict.Reads at is_end) = ⊥
IsVerdictBeside x (verdict.Differs at f) = ⊥

abbrev pub IsVerdictBy :
    List Entry → (IsStart : (place offset : ℕ) → Type 0) → RecordPartValue → Option ℕ → Verdict → Type 0
IsVerdictBy records IsStart x None v = IsVerdictBeside x v
IsVerdictBy records IsStart x (Some place) v = IsVerdictOver records place (IsStart place) x v

-- the verdict on exchange i
abbrev pub IsVerdict : List Entry → List RecordPartValue → (i : ℕ) → RecordPartValue → Verdict → Type 0
IsVerdict records parts i x v =
    IsVerdictBy records (Begins records parts i) x (place_of records x.asked.handle) v

-- a verdict on each of the first k exchanges
pub record AreVerdicts (records : List Entry) (parts : List RecordPartValue) (k : ℕ) (verdicts : List Verdict)
    : Type 0 where
  pub as_many : length verdicts ≡ k
  pub each : (i : ℕ) (x : RecordPartValue) (v : Verdict) → i < k → slice_get parts i ≡ Some x
      → slice_get verdicts i ≡ Some v → IsVerdict records parts i x v

-- a verdict on each of them
abbrev pub AreAllVerdicts : List Entry → List RecordPartValue → List Verdict → Type 0
AreAllVerdicts records parts verdicts = AreVerdicts records parts (length parts) verdicts
