-- Reading a record in parts (DSP0248, GetPDR): requests, and what a terminus answers.
use Rattle.std.specs.Prelude.{◌≡◌, ◌≢◌, ℕ, ◌+◌, ◌<◌, ◌≤◌, min, List, length, take, drop, Result, Ok, Err, MatchOption, ◌==◌, if◌then◌else◌}
use Rattle.pdr_repository.{specs.Crc.{IsCrc}, specs.Records.{Entry, IsLawful, IsMeant, Means, change_in, handle_at}}
use Rattle.mctp_transport.specs.First.{First}
use Rattle.pldm_message.specs.Pdrs.{PartRequest, Part}

-- an answer is a part, or a completion code other than 0
abbrev pub PartAnswer : Type 0
PartAnswer = Result Part ℕ

-- where the part that is asked for begins
abbrev pub offset_of : PartRequest → ℕ
offset_of r = if r.operation == 1 then 0 else r.transfer

-- a next part is asked for with the record's change number
abbrev pub HasChange : PartRequest → List ℕ → Type 0
HasChange r bytes = r.operation ≡ 0 → r.change ≡ change_in bytes

-- a next part begins within the record, and not at its start
abbrev pub IsWithin : PartRequest → List ℕ → Type 0
IsWithin r bytes = r.operation ≡ 0 → (0 < r.transfer) × (r.transfer < length bytes)

-- The part of a record that a request asks for, where `next` is the handle at the following place: as many bytes as
-- asked for, at most 4079, from the offset on. Where bytes remain after it, it is a start or a middle, and the rest
-- begins where it ends; else it is an end, and an end of several parts has the record's check byte.
pub record IsPartOf (next : ℕ) (bytes : List ℕ) (r : PartRequest) (p : Part) : Type 0 where
  pub taken : p.bytes ≡ take (min r.count 4079) (drop (offset_of r) bytes)
  pub follows : p.next ≡ next
  pub more : offset_of r + length p.bytes < length bytes
      → (p.flag ≡ (if r.operation == 1 then 0 else 1)) × (p.transfer ≡ offset_of r + length p.bytes)
  pub last : length bytes ≤ offset_of r + length p.bytes
      → (p.flag ≡ (if r.operation == 1 then 5 else 4)) × (p.transfer ≡ 0)
  pub crc : MatchOption p.crc (p.flag ≢ 4) (λ crc. (p.flag ≡ 4) × IsCrc bytes crc)

-- the answer about a record: a next part has to be asked for with the record's change number, and begins within the
-- record
abbrev pub AnswersFrom : ℕ → List ℕ → PartRequest → PartAnswer → Type 0
AnswersFrom next bytes r a =
    First (¬ HasChange r bytes) (a ≡ Err 0x83)
    (First (¬ IsWithin r bytes) (a ≡ Err 0x80)
    ((p : Part) × (a ≡ Ok p) × IsPartOf next bytes r p))

-- what a terminus answers to a request for a part: an unknown operation, no bytes asked for, a handle that
-- means no record, else from that record
abbrev pub AnswersPart : List Entry → PartRequest → PartAnswer → Type 0
AnswersPart records r a =
    First (1 < r.operation) (a ≡ Err 0x81)
    (First (r.count ≡ 0) (a ≡ Err 0x02)
    (First (¬ IsMeant records r.handle) (a ≡ Err 0x82)
    ((place : ℕ) × (e : Entry) × Means records r.handle place e
    × AnswersFrom (handle_at records (place + 1)) e.bytes r a)))

-- over a lawful list a request for a part has one answer
abbrev pub OneAnswer : Type 0
OneAnswer =
    (records : List Entry) (r : PartRequest) (a b : PartAnswer) → IsLawful records → AnswersPart records r a
    → AnswersPart records r b → a ≡ b
