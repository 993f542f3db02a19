-- What can be wrong with a part that a walker is given.
use Rattle.std.specs.Prelude.{◌≡◌, ◌≢◌, ◌⊎◌, ℕ, ◌+◌, ◌<◌, ◌≤◌, List, ◌++◌, length, Option, Some, None, MatchOption, Any, codes}
use Rattle.pdr_repository.{specs.Crc.{IsCrc}, specs.Records.{handle_in, data_length_in}, specs.declared.walk_fault.WalkFault.{WalkFault}, specs.declared.walk_fault.WalkFault.TheVariants.{FailedBefore, NotAsked, Unreadable, RecordChanged, OtherCode, WrongFlag, WrongSize, WrongCrc, WrongHandle, DoubledHandle, TooMuch, OutOfMemory}}
use Rattle.mctp_transport.specs.First.{First}
use Rattle.pldm_message.specs.Pdrs.{PartRequest, Part}

-- the part is the record's last
abbrev pub IsLast : Part → Type 0
IsLast p = (p.flag ≡ 4) ⊎ (p.flag ≡ 5)

-- the flag that a first part and a next part may have
abbrev pub IsFlagFor : PartRequest → Part → Type 0
IsFlagFor r p =
    ((r.operation ≡ 1) × ((p.flag ≡ 0) ⊎ (p.flag ≡ 5))) ⊎ ((r.operation ≡ 0) × ((p.flag ≡ 1) ⊎ (p.flag ≡ 4)))

-- In the causes `before` is the data of the record under way, without this part.
-- the flag is not one for this request, or more is to come and the next transfer handle is 0
abbrev pub HasWrongFlag : PartRequest → Part → Type 0
HasWrongFlag r p = (¬ IsFlagFor r p) ⊎ ((¬ IsLast p) × (p.transfer ≡ 0))

-- the part is empty, longer than asked for, a start that lacks the change number, or a last part after which the record
-- has not the length that its header says
abbrev pub HasWrongSize : List ℕ → PartRequest → Part → Type 0
HasWrongSize before r p =
    (length p.bytes ≡ 0)
    ⊎ ((r.count < length p.bytes)
    ⊎ (((p.flag ≡ 0) × (length p.bytes < 8))
    ⊎ (IsLast p × (10 + data_length_in (before ++ p.bytes) ≢ length (before ++ p.bytes)))))

-- the check byte, which an end of several parts has, is not the record's
abbrev pub HasWrongCrc : List ℕ → Part → Type 0
HasWrongCrc before p = MatchOption p.crc ⊥ (λ crc. ¬ IsCrc (before ++ p.bytes) crc)

-- the record's handle is 0, or not the one that was asked for by number
abbrev pub HasWrongHandle : List ℕ → PartRequest → Part → Type 0
HasWrongHandle before r p =
    IsLast p × ((handle_in (before ++ p.bytes) ≡ 0) ⊎ ((r.handle ≢ 0) × (handle_in (before ++ p.bytes) ≢ r.handle)))

-- a record of this handle was collected before
abbrev pub HasDoubledHandle : List (List ℕ) → List ℕ → Part → Type 0
HasDoubledHandle records before p = IsLast p × Any (λ bytes. handle_in bytes ≡ handle_in (before ++ p.bytes)) records

-- how much a walker may collect, and how much it has
pub record Room : Type 0 where
  pub max_records : ℕ
  pub max_bytes : ℕ
  pub records : ℕ
  pub bytes : ℕ

-- one record too many, or more bytes than may be collected
abbrev pub IsTooMuch : Room → Part → Type 0
IsTooMuch room p = (IsLast p × (room.max_records ≤ room.records)) ⊎ (room.max_bytes < room.bytes + length p.bytes)

-- what the tests of a part find, in their order
abbrev pub Judges : Room → List (List ℕ) → List ℕ → PartRequest → Part → Option WalkFault → Type 0
Judges room records before r p fault =
    First (HasWrongFlag r p) (fault ≡ Some WrongFlag)
    (First (HasWrongSize before r p) (fault ≡ Some WrongSize)
    (First (HasWrongCrc before p) (fault ≡ Some WrongCrc)
    (First (HasWrongHandle before r p) (fault ≡ Some WrongHandle)
    (First (HasDoubledHandle records before p) (fault ≡ Some DoubledHandle)
    (First (IsTooMuch room p) (fault ≡ Some TooMuch)
    (fault ≡ None))))))

-- the code that users see; out of memory has none
abbrev pub code_of : WalkFault → Option (List ℕ)
code_of FailedBefore = Some (codes "G11")
code_of NotAsked = Some (codes "G03")
code_of Unreadable = Some (codes "G02")
code_of RecordChanged = Some (codes "G10")
code_of OtherCode = Some (codes "G01")
code_of WrongFlag = Some (codes "G04")
code_of WrongSize = Some (codes "G06")
code_of WrongCrc = Some (codes "G05")
code_of WrongHandle = Some (codes "G07")
code_of DoubledHandle = Some (codes "G08")
code_of TooMuch = Some (codes "G09")
code_of OutOfMemory = None
