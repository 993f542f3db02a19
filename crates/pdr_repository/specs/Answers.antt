-- What a terminus answers (DSP0240, section 8; DSP0248, section 26.2).
use Rattle.std.specs.Prelude.{◌≡◌, ◌≢◌, ℕ, Bool, true, false, List, [], ◌∷◌, ◌++◌, length, drop, Option, Some, None}
use Rattle.mctp_transport.specs.First.{First}
use Rattle.pldm_message.{specs.declared.kind.MessageKind.TheVariants.{Request, Response}, specs.declared.command.Command.{Command}, specs.declared.command.Command.TheVariants.{SetTid, GetTid, GetPldmTypes, GetPdr}, specs.Commands.{type_of, command_byte}, specs.Headers.{HeaderValue, BeginsWith, header_bytes}, specs.Messages.{outcome_bytes}, specs.BaseCommands.{IsAssignableTid}, specs.Pdrs.{PartRequest, IsPartRequest, part_request_bytes, part_bytes}}
use Rattle.pdr_repository.{specs.Records.{Entry}, specs.Parts.{PartAnswer, AnswersPart}}

-- the bytes begin with the header of a request that is to be answered: PLDM's message type, header version 0, Rq 1 and
-- D 0
abbrev pub IsAsked : List ℕ → Type 0
IsAsked request = (h : HeaderValue) × BeginsWith h request × (h.kind ≡ Request)

-- the header of the answer: that of the request, with Rq, D and the reserved bit clear
abbrev pub reply_header : HeaderValue → HeaderValue
reply_header h =
    record { kind = Response; reserved = false; instance = h.instance; pldm_type = h.pldm_type; command = h.command }

-- the answer is this completion code, and the TID stays
abbrev pub AnswersCode : ℕ → ℕ → List ℕ → ℕ → Type 0
AnswersCode code tid reply next_tid = (reply ≡ code ∷ []) × (next_tid ≡ tid)

-- a bit for each PLDM type, of which types 0 and 2 are known
abbrev pub known_types : List ℕ
known_types = 5 ∷ 0 ∷ 0 ∷ 0 ∷ 0 ∷ 0 ∷ 0 ∷ 0 ∷ []

-- how many data bytes a request with this command has
abbrev pub request_length : Command → ℕ
request_length SetTid = 1
request_length GetTid = 0
request_length GetPldmTypes = 0
request_length GetPdr = 13

-- what follows the header of the answer to a request with this command, whose data have the right length, and the TID
-- afterwards
abbrev pub AnswersData : Command → ℕ → List Entry → List ℕ → List ℕ → ℕ → Type 0
AnswersData SetTid tid records asked reply next_tid =
    (wanted : ℕ) × (asked ≡ wanted ∷ [])
    × First (¬ IsAssignableTid wanted) (AnswersCode 0x02 tid reply next_tid)
    ((reply ≡ 0 ∷ []) × (next_tid ≡ wanted))
AnswersData GetTid tid records asked reply next_tid = (reply ≡ 0 ∷ tid ∷ []) × (next_tid ≡ tid)
AnswersData GetPldmTypes tid records asked reply next_tid = (reply ≡ 0 ∷ known_types) × (next_tid ≡ tid)
AnswersData GetPdr tid records asked reply next_tid =
    (r : PartRequest) × (a : PartAnswer) × IsPartRequest r × (asked ≡ part_request_bytes r) × AnswersPart records r a
    × (reply ≡ outcome_bytes part_bytes a) × (next_tid ≡ tid)

-- the header is that of a command
abbrev pub IsOf : Command → HeaderValue → Type 0
IsOf c h = (h.pldm_type ≡ type_of c) × (h.command ≡ command_byte c)

-- what follows the header of the answer: an unknown PLDM type, an unknown command, a wrong length, else by the command
abbrev pub AnswersCommand : HeaderValue → ℕ → List Entry → List ℕ → List ℕ → ℕ → Type 0
AnswersCommand h tid records asked reply next_tid =
    First ((h.pldm_type ≢ 0) × (h.pldm_type ≢ 2)) (AnswersCode 0x20 tid reply next_tid)
    (First ((c : Command) → ¬ IsOf c h) (AnswersCode 0x05 tid reply next_tid)
    ((c : Command) × IsOf c h
    × First (length asked ≢ request_length c) (AnswersCode 0x03 tid reply next_tid)
    (AnswersData c tid records asked reply next_tid)))

-- A terminus of this TID and these records answers the request, and has the next TID afterwards. What
-- is no request for an answer gets none.
abbrev pub Answers : ℕ → List Entry → List ℕ → Option (List ℕ) → ℕ → Type 0
Answers tid records request answer next_tid =
    First (¬ IsAsked request) ((answer ≡ None) × (next_tid ≡ tid))
    ((h : HeaderValue) × (reply : List ℕ) × BeginsWith h request
    × (answer ≡ Some (header_bytes (reply_header h) ++ reply))
    × AnswersCommand h tid records (drop 4 request) reply next_tid)

-- the answer that was written, if there is one
abbrev pub answer_of : Bool → List ℕ → Option (List ℕ)
answer_of true out = Some out
answer_of false out = None
