-- Why bytes are not the PLDM message that was wanted.
use Rattle.std.specs.Prelude.{◌≡◌, ◌≢◌, ℕ, ◌<◌, ◌≤◌, ◌/◌, ◌%◌, List, length, slice_index, Option, Some, None, codes, ◌==◌, if◌then◌else◌}
use Rattle.pldm_message.{specs.declared.pldm_error.PldmError.{PldmError}, specs.declared.command.Command.{Command}, specs.Commands.{type_of, command_byte}}
use Rattle.mctp_transport.specs.First.{First}
use Rattle.pldm_message.specs.declared.pldm_error.PldmError.TheVariants as error

-- not even a header
abbrev pub IsShort : List ℕ → Type 0
IsShort bytes = length bytes < 4

-- the message type isn't PLDM's
abbrev pub HasOtherType : List ℕ → Type 0
HasOtherType bytes = slice_index bytes 0 ≢ 1

-- the header version, bits 7 and 6 of the third byte, isn't 0
abbrev pub HasOtherVersion : List ℕ → Type 0
HasOtherVersion bytes = slice_index bytes 2 / 64 ≢ 0

-- bits 7 and 6 of the second byte are 0 and 1: D in what is no request, a reserved pair
abbrev pub HasReservedKind : List ℕ → Type 0
HasReservedKind bytes = slice_index bytes 1 / 64 ≡ 1

-- the first fault of a header, or what comes after the header where it has none
abbrev pub HeaderFault : List ℕ → Option PldmError → Type 0 → Type 0
HeaderFault bytes fault later =
    First (IsShort bytes) (fault ≡ Some error.Short)
    (First (HasOtherType bytes) (fault ≡ Some error.MessageType)
    (First (HasOtherVersion bytes) (fault ≡ Some error.Version)
    (First (HasReservedKind bytes) (fault ≡ Some error.ReservedKind)
    later)))

-- the first fault up to the PLDM type, command and direction that are wanted, or what comes after them
abbrev pub WantedFault : Type 0 → List ℕ → Option PldmError → Type 0 → Type 0
WantedFault wanted bytes fault later =
    HeaderFault bytes fault (First (¬ wanted) (fault ≡ Some error.OtherMessage) later)

-- the first fault of a message, of which the length is known, or none
abbrev pub MessageFault : Type 0 → ℕ → List ℕ → Option PldmError → Type 0
MessageFault wanted long bytes fault =
    WantedFault wanted bytes fault (First (length bytes ≢ long) (fault ≡ Some error.Length) (fault ≡ None))

-- a request (Rq 1, either D) with this command
abbrev pub IsRequestOf : Command → List ℕ → Type 0
IsRequestOf c bytes =
    (2 ≤ slice_index bytes 1 / 64) × (slice_index bytes 2 % 64 ≡ type_of c) × (slice_index bytes 3 ≡ command_byte c)

-- a response (Rq 0) to a request with this command
abbrev pub IsAnswerOf : Command → List ℕ → Type 0
IsAnswerOf c bytes =
    (slice_index bytes 1 / 64 < 2) × (slice_index bytes 2 % 64 ≡ type_of c) × (slice_index bytes 3 ≡ command_byte c)

-- the length of an answer: so long where its completion code is 0, and else no more than that code
abbrev pub answer_length : ℕ → List ℕ → ℕ
answer_length whole bytes = if slice_index bytes 4 == 0 then whole else 5

-- the code that users see
abbrev pub code_of : PldmError → List ℕ
code_of error.Short = codes "L01"
code_of error.MessageType = codes "L02"
code_of error.Version = codes "L03"
code_of error.Length = codes "L04"
code_of error.ReservedKind = codes "L05"
code_of error.OtherMessage = codes "L06"
