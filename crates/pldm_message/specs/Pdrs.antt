-- Requests for parts of records, and their answers (DSP0248, GetPDR).
use Rattle.std.{specs.Prelude.{◌≡◌, ℕ, ◌+◌, ◌<◌, ◌^◌, List, [], ◌∷◌, ◌++◌, length, drop, slice_index, Option, is_some, Some, ◌==◌, if◌then◌else◌}, specs.Option.{option_to_list}}
use Rattle.byteorder.specs.Endian.{little_bytes, little_number}
use Rattle.pldm_message.specs.Messages.{RequestMessage, ResponseMessage, IsRequest, IsAnswer, request_bytes, answer_bytes}
use Rattle.pldm_message.specs.declared.command.Command.TheVariants as command

-- what is asked for: the record (0 the first one), where its part begins, whether that is a first or a next part, how
-- many bytes at most, and the number by which a change of the record is noticed
pub record PartRequest : Type 0 where
  pub handle : ℕ
  pub transfer : ℕ
  pub operation : ℕ
  pub count : ℕ
  pub change : ℕ

pub record IsPartRequest (r : PartRequest) : Type 0 where
  pub handle : r.handle < 2 ^ 32
  pub transfer : r.transfer < 2 ^ 32
  pub operation : r.operation < 256
  pub count : r.count < 2 ^ 16
  pub change : r.change < 2 ^ 16

-- 13 bytes, each number with its lowest byte first
abbrev pub part_request_bytes : PartRequest → List ℕ
part_request_bytes r =
    little_bytes 4 r.handle ++ little_bytes 4 r.transfer ++ (r.operation ∷ []) ++ little_bytes 2 r.count
    ++ little_bytes 2 r.change

-- a part of a record: the handle of the record after it (0: none), where the record's next part begins (0: none), which
-- part it is, its bytes, and the check byte of a record of several parts at its last
pub record Part : Type 0 where
  pub next : ℕ
  pub transfer : ℕ
  pub flag : ℕ
  pub bytes : List ℕ
  pub crc : Option ℕ

-- the check byte stands only where the flag is 4, the end of several parts
pub record IsPart (p : Part) : Type 0 where
  pub next : p.next < 2 ^ 32
  pub transfer : p.transfer < 2 ^ 32
  pub flag : p.flag < 256
  pub count : length p.bytes < 2 ^ 16
  pub checked : is_some p.crc ≡ (p.flag == 4)
  pub crc : (crc : ℕ) → p.crc ≡ Some crc → crc < 256

-- what stands before the record's bytes: each number with its lowest byte first, the last of them how many bytes follow
abbrev pub part_numbers : Part → List ℕ
part_numbers p = little_bytes 4 p.next ++ little_bytes 4 p.transfer ++ (p.flag ∷ []) ++ little_bytes 2 (length p.bytes)

abbrev pub part_bytes : Part → List ℕ
part_bytes p = part_numbers p ++ p.bytes ++ option_to_list p.crc

-- one byte more where the flag is 4
abbrev pub check_length : ℕ → ℕ
check_length flag = if flag == 4 then 1 else 0

-- the data are so many bytes of a record, and behind them a check byte where the flag is 4
pub record IsChecked (tail : List ℕ) (count flag : ℕ) (bytes : List ℕ) (crc : Option ℕ) : Type 0 where
  pub spelled : tail ≡ bytes ++ option_to_list crc
  pub counted : length bytes ≡ count
  pub checked : is_some crc ≡ (flag == 4)
  pub in_range : (byte : ℕ) → crc ≡ Some byte → byte < 256

-- how long a part's bytes are, by the number and the flag in them
abbrev pub part_length : List ℕ → ℕ
part_length bytes = 11 + little_number 2 (drop 9 bytes) + check_length (slice_index bytes 8)

-- how long an answer with completion code 0 is, by the part in it
abbrev pub part_answer_length : List ℕ → ℕ
part_answer_length bytes = 5 + part_length (drop 5 bytes)

abbrev pub IsGetPdrRequest : RequestMessage PartRequest → Type 0
IsGetPdrRequest m = IsRequest IsPartRequest m

abbrev pub get_pdr_request_bytes : RequestMessage PartRequest → List ℕ
get_pdr_request_bytes m = request_bytes command.GetPdr part_request_bytes m

abbrev pub IsGetPdrResponse : ResponseMessage Part → Type 0
IsGetPdrResponse m = IsAnswer IsPart m

abbrev pub get_pdr_answer_bytes : ResponseMessage Part → List ℕ
get_pdr_answer_bytes m = answer_bytes command.GetPdr part_bytes m
