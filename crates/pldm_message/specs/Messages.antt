-- Requests and answers as plain values, and their bytes (DSP0240, PLDM message fields).
use Rattle.std.specs.Prelude.{ℕ, ◌<◌, Bool, List, [], ◌∷◌, ◌++◌, Result, Ok, Err}
use Rattle.pldm_message.{specs.declared.kind.MessageKind.{MessageKind}, specs.declared.kind.RequestKind.{RequestKind}, specs.declared.command.Command.{Command}, specs.Commands.{type_of, command_byte}, specs.Headers.{HeaderValue, header_bytes}}
use Rattle.pldm_message.specs.declared.kind.MessageKind.TheVariants as message
use Rattle.pldm_message.specs.declared.kind.RequestKind.TheVariants as request

-- what a request's header says besides its command
pub record RequestHeadValue : Type 0 where
  pub kind : RequestKind
  pub reserved : Bool
  pub instance : ℕ

-- what an answer's header says besides its command
pub record ResponseHeadValue : Type 0 where
  pub reserved : Bool
  pub instance : ℕ

abbrev pub message_kind : RequestKind → MessageKind
message_kind request.Request = message.Request
message_kind request.Datagram = message.Datagram

abbrev pub request_header : Command → RequestHeadValue → HeaderValue
request_header c h =
    record {
      kind = message_kind h.kind;
      reserved = h.reserved;
      instance = h.instance;
      pldm_type = type_of c;
      command = command_byte c;
    }

abbrev pub answer_header : Command → ResponseHeadValue → HeaderValue
answer_header c h =
    record {
      kind = message.Response;
      reserved = h.reserved;
      instance = h.instance;
      pldm_type = type_of c;
      command = command_byte c;
    }

-- a request: the rest of its header, and its data
pub record RequestMessage (A : Type 0) : Type 0 where
  pub head : RequestHeadValue
  pub body : A

-- an answer: the rest of its header, and its data, or a completion code other than 0
pub record ResponseMessage (A : Type 0) : Type 0 where
  pub head : ResponseHeadValue
  pub outcome : Result A ℕ

-- the header, and then the data
abbrev pub request_bytes : {A : Type 0} → Command → (A → List ℕ) → RequestMessage A → List ℕ
request_bytes c spell m = header_bytes (request_header c m.head) ++ spell m.body

abbrev pub IsRequest : {A : Type 0} → (A → Type 0) → RequestMessage A → Type 0
IsRequest IsBody m = (m.head.instance < 32) × IsBody m.body

-- the completion code 0 and the data, or another code and nothing after it
abbrev pub outcome_bytes : {A : Type 0} → (A → List ℕ) → Result A ℕ → List ℕ
outcome_bytes spell (Ok a) = 0 ∷ spell a
outcome_bytes spell (Err code) = code ∷ []

abbrev pub IsOutcome : {A : Type 0} → (A → Type 0) → Result A ℕ → Type 0
IsOutcome IsBody (Ok a) = IsBody a
IsOutcome IsBody (Err code) = (0 < code) × (code < 256)

-- the header, and then the outcome
abbrev pub answer_bytes : {A : Type 0} → Command → (A → List ℕ) → ResponseMessage A → List ℕ
answer_bytes c spell m = header_bytes (answer_header c m.head) ++ outcome_bytes spell m.outcome

abbrev pub IsAnswer : {A : Type 0} → (A → Type 0) → ResponseMessage A → Type 0
IsAnswer IsBody m = (m.head.instance < 32) × IsOutcome IsBody m.outcome

-- data that are any bytes, as they stand in a message
abbrev pub IsAny : List ℕ → Type 0
IsAny body = Unit {0}

abbrev pub itself : List ℕ → List ℕ
itself body = body
