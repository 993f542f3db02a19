-- The commands that set a terminus ID, tell it, and tell the PLDM types, with their answers (DSP0240, messaging control
-- and discovery).
use Rattle.std.specs.Prelude.{◌≡◌, ℕ, ◌<◌, ◌≤◌, ◌/◌, ◌%◌, ◌^◌, List, [], ◌∷◌, length, slice_index}
use Rattle.pldm_message.specs.Messages.{RequestMessage, ResponseMessage, IsRequest, IsAnswer, request_bytes, answer_bytes}
use Rattle.pldm_message.specs.declared.command.Command.TheVariants as command

-- no data, and their bytes
abbrev pub IsNothing : Unit {0} → Type 0
IsNothing body = Unit {0}

abbrev pub nothing : Unit {0} → List ℕ
nothing body = []

-- one byte of data
abbrev pub IsByte : ℕ → Type 0
IsByte byte = byte < 256

abbrev pub one_byte : ℕ → List ℕ
one_byte byte = byte ∷ []

-- bit j of byte i stands for the PLDM type 8 i + j
abbrev pub HasType : List ℕ → ℕ → Type 0
HasType bits pldm_type = slice_index bits (pldm_type / 8) / 2 ^ (pldm_type % 8) % 2 ≡ 1

-- eight bytes of data, which stand for a set of PLDM types
abbrev pub AreTypes : List ℕ → Type 0
AreTypes bits = length bits ≡ 8

abbrev pub type_bits : List ℕ → List ℕ
type_bits bits = bits

-- a terminus ID that can be set: 0 says that there is none, and 255 is reserved
abbrev pub IsAssignableTid : ℕ → Type 0
IsAssignableTid tid = (1 ≤ tid) × (tid ≤ 254)

abbrev pub IsSetTid : RequestMessage ℕ → Type 0
IsSetTid m = IsRequest IsByte m

abbrev pub set_tid_bytes : RequestMessage ℕ → List ℕ
set_tid_bytes m = request_bytes command.SetTid one_byte m

abbrev pub IsSetTidResponse : ResponseMessage (Unit {0}) → Type 0
IsSetTidResponse m = IsAnswer IsNothing m

abbrev pub set_tid_answer_bytes : ResponseMessage (Unit {0}) → List ℕ
set_tid_answer_bytes m = answer_bytes command.SetTid nothing m

abbrev pub IsGetTid : RequestMessage (Unit {0}) → Type 0
IsGetTid m = IsRequest IsNothing m

abbrev pub get_tid_bytes : RequestMessage (Unit {0}) → List ℕ
get_tid_bytes m = request_bytes command.GetTid nothing m

abbrev pub IsGetTidResponse : ResponseMessage ℕ → Type 0
IsGetTidResponse m = IsAnswer IsByte m

abbrev pub get_tid_answer_bytes : ResponseMessage ℕ → List ℕ
get_tid_answer_bytes m = answer_bytes command.GetTid one_byte m

abbrev pub IsGetPldmTypes : RequestMessage (Unit {0}) → Type 0
IsGetPldmTypes m = IsRequest IsNothing m

abbrev pub get_pldm_types_bytes : RequestMessage (Unit {0}) → List ℕ
get_pldm_types_bytes m = request_bytes command.GetPldmTypes nothing m

abbrev pub IsGetPldmTypesResponse : ResponseMessage (List ℕ) → Type 0
IsGetPldmTypesResponse m = IsAnswer AreTypes m

abbrev pub get_pldm_types_answer_bytes : ResponseMessage (List ℕ) → List ℕ
get_pldm_types_answer_bytes m = answer_bytes command.GetPldmTypes type_bits m
