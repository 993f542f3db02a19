-- An answer as it is made: the command of a request, what is answered to it, and the whole message.
use Rattle.std.specs.Prelude.{◌≡◌, ◌≢◌, ℕ, List, ◌++◌, length, drop, false, Result, Ok, Err}
use Rattle.mctp_transport.specs.First.{First}
use Rattle.pldm_message.{specs.declared.kind.MessageKind.TheVariants.{Request}, specs.declared.command.Command.{Command}, specs.Headers.{HeaderValue, BeginsWith, header_bytes}, specs.Messages.{answer_header}}
use Rattle.pdr_repository.{specs.Records.{Entry}, specs.Answers.{AnswersCode, AnswersData, IsOf, request_length}}

-- the command that a request with this header has, or the code that is answered where none is known
abbrev pub NamesCommand : HeaderValue → Result Command ℕ → Type 0
NamesCommand h command =
    First ((h.pldm_type ≢ 0) × (h.pldm_type ≢ 2)) (command ≡ Err 0x20)
    (First ((c : Command) → ¬ IsOf c h) (command ≡ Err 0x05)
    ((c : Command) × IsOf c h × (command ≡ Ok c)))

-- the bytes begin with the header of a request with this command that is to be answered
abbrev pub IsAskedFor : Command → List ℕ → Type 0
IsAskedFor c request = (h : HeaderValue) × BeginsWith h request × (h.kind ≡ Request) × IsOf c h

-- what follows the header of the answer to such a request, and the TID afterwards: a wrong length, else by the command
abbrev pub CarriesOut : Command → ℕ → List Entry → List ℕ → List ℕ → ℕ → Type 0
CarriesOut c tid records request reply next_tid =
    First (length (drop 4 request) ≢ request_length c) (AnswersCode 0x03 tid reply next_tid)
    (AnswersData c tid records (drop 4 request) reply next_tid)

-- the whole answer to such a request of this instance ID, and the TID afterwards
abbrev pub Replies : Command → ℕ → ℕ → List Entry → List ℕ → List ℕ → ℕ → Type 0
Replies c instance tid records request answer next_tid =
    (reply : List ℕ)
    × (answer ≡ header_bytes (answer_header c (record { reserved = false; instance = instance })) ++ reply)
    × CarriesOut c tid records request reply next_tid
