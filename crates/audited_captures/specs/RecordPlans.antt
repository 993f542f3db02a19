-- What a planned terminus tells of a record, from a byte of it on (DSP0248, GetPDR).
use Rattle.std.specs.Prelude.{◌≡◌, ◌≢◌, ◌⊎◌, ℕ, ◌+◌, ◌<◌, ◌≤◌, ◌==◌, Bool, List, length, take, drop, slice_get, Option, Some, None, Ok, Err, if◌then◌else◌}
use Rattle.pldm_message.specs.Pdrs.{PartRequest, Part}
use Rattle.pdr_repository.{specs.Crc.{IsCrc}, specs.Parts.{PartAnswer}, specs.Records.{change_in}}
use Rattle.audited_captures.{specs.RecordParts.{RecordPartValue}, specs.declared.record_faults.RecordFault.{RecordFault}}
use Rattle.audited_captures.specs.declared.record_faults.RecordFault.TheVariants as fault

-- the transfer flag of a part, by what was asked for and whether it is the last one
abbrev pub flag_for : (operation : ℕ) → (is_last : Bool) → ℕ
flag_for operation is_last =
    if operation == 1 then (if is_last then 5 else 0) else (if is_last then 4 else 1)

-- The part is what the record has from the byte at the offset on: some bytes and no more than were asked for, the
-- handle of the record behind it, the flag that says whether bytes are left, and at the end of several parts the
-- record's check byte.
pub record IsPartFrom (next : ℕ) (bytes : List ℕ) (r : PartRequest) (offset : ℕ) (p : Part) : Type 0 where
  pub some : length p.bytes ≢ 0
  pub few : length p.bytes ≤ r.count
  pub taken : p.bytes ≡ take (length p.bytes) (drop offset bytes)
  pub follows : p.next ≡ next
  pub flag : p.flag ≡ flag_for r.operation (length p.bytes == length (drop offset bytes))
  pub check : (crc : ℕ) → p.crc ≡ Some crc → IsCrc bytes crc

-- what is asked for is refused: no bytes, or a next part with another change number than the record's
abbrev pub MayRefuse : (bytes : List ℕ) → PartRequest → (code : ℕ) → Type 0
MayRefuse bytes r code =
    ((code ≡ 0x02) × (r.count ≡ 0)) ⊎ ((code ≡ 0x83) × (r.operation ≡ 0) × (r.change ≢ change_in bytes))

abbrev pub IsAnswerFrom : (next : ℕ) → (bytes : List ℕ) → PartRequest → (offset : ℕ) → Option PartAnswer → Type 0
IsAnswerFrom next bytes r offset None = ⊥
IsAnswerFrom next bytes r offset (Some (Ok p)) = IsPartFrom next bytes r offset p
IsAnswerFrom next bytes r offset (Some (Err code)) = MayRefuse bytes r code

-- what was answered is what a terminus with the record tells from the offset on
abbrev pub IsToldFrom : (next : ℕ) → (bytes : List ℕ) → (offset : ℕ) → RecordPartValue → Type 0
IsToldFrom next bytes offset x = IsAnswerFrom next bytes x.asked offset x.told

-- byte k is the first in which what was found differs from what is planned, or has more
pub record IsUnlikeAt (planned found : List ℕ) (k : ℕ) : Type 0 where
  pub within : k < length found
  pub before : take k found ≡ take k planned
  pub here : slice_get found k ≢ slice_get planned k

-- this is what is wrong with a part from the offset on, with what was found and what is planned
abbrev pub IsPartFault :
    (next : ℕ) → (bytes : List ℕ) → PartRequest → (offset : ℕ) → Part → RecordFault → Type 0
IsPartFault next bytes r offset p fault.Unreadable = ⊥
IsPartFault next bytes r offset p (fault.Failed code) = ⊥
IsPartFault next bytes r offset p (fault.Size found asked) =
    (found ≡ length p.bytes) × (asked ≡ r.count) × ((found ≡ 0) ⊎ (asked < found))
IsPartFault next bytes r offset p (fault.Byte byte) =
    (k : ℕ) × (byte ≡ offset + k) × IsUnlikeAt (drop offset bytes) p.bytes k
IsPartFault next bytes r offset p (fault.Next found planned) =
    (found ≡ p.next) × (planned ≡ next) × (found ≢ planned)
IsPartFault next bytes r offset p (fault.Flag found planned) =
    (found ≡ p.flag) × (planned ≡ flag_for r.operation (length p.bytes == length (drop offset bytes)))
    × (found ≢ planned)
IsPartFault next bytes r offset p (fault.Check found planned) =
    (p.crc ≡ Some found) × IsCrc bytes planned × ¬ IsCrc bytes found

abbrev pub IsAnswerFault :
    (next : ℕ) → (bytes : List ℕ) → PartRequest → (offset : ℕ) → Option PartAnswer → RecordFault → Type 0
IsAnswerFault next bytes r offset None f = f ≡ fault.Unreadable
IsAnswerFault next bytes r offset (Some (Ok p)) f = IsPartFault next bytes r offset p f
IsAnswerFault next bytes r offset (Some (Err code)) f = (f ≡ fault.Failed code) × ¬ MayRefuse bytes r code

-- this is what is wrong with what was answered
abbrev pub IsFaultFrom : (next : ℕ) → (bytes : List ℕ) → (offset : ℕ) → RecordPartValue → RecordFault → Type 0
IsFaultFrom next bytes offset x f = IsAnswerFault next bytes x.asked offset x.told f
