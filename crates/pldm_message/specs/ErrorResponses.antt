-- Answers that have a completion code alone, whatever was asked for (DSP0240, PLDM message fields).
use Rattle.std.specs.Prelude.{◌≡◌, ◌≢◌, ℕ, ◌<◌, ◌/◌, List, [], ◌∷◌, ◌++◌, length, slice_index, Option, Some, None}
use Rattle.mctp_transport.specs.First.{First}
use Rattle.pldm_message.{specs.declared.kind.MessageKind.TheVariants.{Response}, specs.declared.pldm_error.PldmError.{PldmError}, specs.Headers.{HeaderValue, IsHeader, header_bytes}, specs.Faults.{WantedFault}}
use Rattle.pldm_message.specs.declared.pldm_error.PldmError.TheVariants as error

-- a header, and a completion code
pub record ErrorMessage : Type 0 where
  pub header : HeaderValue
  pub code : ℕ

-- a response's header, and a code other than 0
pub record IsErrorResponse (m : ErrorMessage) : Type 0 where
  pub header : IsHeader m.header
  pub response : m.header.kind ≡ Response
  pub some : 0 < m.code
  pub in_range : m.code < 256

abbrev pub error_response_bytes : ErrorMessage → List ℕ
error_response_bytes m = header_bytes m.header ++ m.code ∷ []

-- a response: Rq 0
abbrev pub IsResponse : List ℕ → Type 0
IsResponse bytes = slice_index bytes 1 / 64 < 2

-- a completion code other than 0, and nothing after it
abbrev pub HasCodeAlone : List ℕ → Type 0
HasCodeAlone bytes = (length bytes ≡ 5) × (slice_index bytes 4 ≢ 0)

-- the first fault of such an answer, or none
abbrev pub ErrorResponseFault : List ℕ → Option PldmError → Type 0
ErrorResponseFault bytes fault =
    WantedFault (IsResponse bytes) bytes fault (First (¬ HasCodeAlone bytes) (fault ≡ Some error.Length) (fault ≡ None))
