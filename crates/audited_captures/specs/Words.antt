-- Messages that were heard, by who asked whom: control messages (DSP0236, "MCTP control message format"), requests for
-- parts of records with their answers (DSP0248, GetPDR), and for terminus IDs (DSP0240, GetTID).
use Rattle.std.specs.Prelude.{◌≡◌, ◌⊎◌, ℕ, Bool, not, true, false, List, [], ◌∷◌, ◌++◌, Option, MatchOption, option_map, Result}
use Rattle.mctp_transport.specs.Wire.{Spells}
use Rattle.mctp_control.{specs.Requests.{CommandValue, SetsEid, GetsEid, AllocatesEids, GetsEntries, command_value, RequestValue, SpellsRequest}, specs.Responses.{AnswerValue, EidSet, EidTold, PoolTold, EntriesTold, Failed, answer_value, ResponseValue, SpellsResponse}}
use Rattle.pldm_message.{specs.BaseCommands.{IsGetTid, get_tid_bytes, IsGetTidResponse, get_tid_answer_bytes}, specs.Commands.{type_of, command_byte}, specs.Headers.{HeaderValue, BeginsWith}, specs.Heads.{outcome_value}, specs.Messages.{RequestMessage, ResponseHeadValue, ResponseMessage}, specs.PdrValues.{get_pdr_request, part}, specs.Pdrs.{PartRequest, Part, IsGetPdrRequest, get_pdr_request_bytes, IsGetPdrResponse, get_pdr_answer_bytes}, specs.declared.command.Command.TheVariants.{GetPdr}, specs.declared.kind.MessageKind.TheVariants.{Response}}
use Rattle.pdr_repository.specs.Parts.{PartAnswer}
use Rattle.heard_captures.specs.Messages.{MessageValue}
use Rattle.audited_captures.{specs.declared.words.Body.{Body}, specs.declared.words.Word.{Word}}
use Rattle.audited_captures.specs.declared.words.Body.TheVariants as body

-- a control message asks or answers; or a part of a record is asked for, or told, or a completion code says why not, or
-- the answer's bytes tell neither; or a terminus ID is asked for, or told, or a completion code says why not
pub data BodyValue : Type 0 where
  Asks : CommandValue → BodyValue
  Answers : AnswerValue → BodyValue
  AsksPart : RequestMessage PartRequest → BodyValue
  TellsPart : Option PartAnswer → BodyValue
  AsksTid : BodyValue
  TellsTid : Result ℕ ℕ → BodyValue

-- who asks whom, the message tag and the instance ID of the exchange, and what is asked or answered
pub record WordValue : Type 0 where
  pub requester : ℕ
  pub responder : ℕ
  pub tag : ℕ
  pub instance : ℕ
  pub body : BodyValue

abbrev pub body_value : Body → BodyValue
body_value (body.Asks command) = Asks (command_value command)
body_value (body.Answers answer) = Answers (answer_value answer)
body_value (body.AsksPart request) = AsksPart (get_pdr_request request)
body_value (body.TellsPart told) = TellsPart (option_map (outcome_value part) told)
body_value body.AsksTid = AsksTid
body_value (body.TellsTid outcome) = TellsTid (outcome_value (λ tid. tid.value) outcome)

-- the message asks
abbrev pub is_question : BodyValue → Bool
is_question (Asks command) = true
is_question (Answers answer) = false
is_question (AsksPart request) = true
is_question (TellsPart told) = false
is_question AsksTid = true
is_question (TellsTid outcome) = false

abbrev pub word_value : Word → WordValue
word_value w = record {
  requester = w.requester.value;
  responder = w.responder.value;
  tag = w.tag.value;
  instance = w.instance;
  body = body_value w.body;
}

-- the number of a command
abbrev pub number_asked : CommandValue → ℕ
number_asked (SetsEid operation reserved eid) = 1
number_asked GetsEid = 2
number_asked (AllocatesEids operation reserved size first) = 8
number_asked (GetsEntries handle) = 10

-- the number of the command that is answered
abbrev pub number_answered : AnswerValue → ℕ
number_answered (EidSet status eid size) = 1
number_answered (EidTold eid status medium) = 2
number_answered (PoolTold status size first) = 8
number_answered (EntriesTold next entries) = 10
number_answered (Failed command code) = command

-- of a message; what parts of records and terminus IDs are asked for and told by has a number that no control command
-- has
abbrev pub command_of : BodyValue → ℕ
command_of (Asks command) = number_asked command
command_of (Answers answer) = number_answered answer
command_of (AsksPart request) = 337
command_of (TellsPart told) = 337
command_of AsksTid = 258
command_of (TellsTid outcome) = 258

-- a request from the message's source
abbrev pub asked : MessageValue → RequestValue → WordValue
asked m r = record {
  requester = m.source;
  responder = m.destination;
  tag = m.tag;
  instance = r.header.instance;
  body = Asks r.command;
}

-- a response from the message's source
abbrev pub answered : MessageValue → ResponseValue → WordValue
answered m r = record {
  requester = m.destination;
  responder = m.source;
  tag = m.tag;
  instance = r.header.instance;
  body = Answers r.answer;
}

abbrev pub IsRequestWord : MessageValue → WordValue → Type 0
IsRequestWord m w = (r : RequestValue) × SpellsRequest r m.bytes × (w ≡ asked m r)

abbrev pub IsResponseWord : MessageValue → WordValue → Type 0
IsResponseWord m w = (r : ResponseValue) × SpellsResponse r m.bytes × (w ≡ answered m r)

-- a request for a part of a record, from the message's source
abbrev pub asked_part : MessageValue → RequestMessage PartRequest → WordValue
asked_part m r = record {
  requester = m.source;
  responder = m.destination;
  tag = m.tag;
  instance = r.head.instance;
  body = AsksPart r;
}

-- what begins as an answer to one, from the message's source
abbrev pub told_part : MessageValue → HeaderValue → Option PartAnswer → WordValue
told_part m h told = record {
  requester = m.destination;
  responder = m.source;
  tag = m.tag;
  instance = h.instance;
  body = TellsPart told;
}

-- the bytes are this answer to GetPDR, or none
abbrev pub IsPartTold : List ℕ → Option PartAnswer → Type 0
IsPartTold bytes told =
    MatchOption told ((a : ResponseMessage Part) → ¬ Spells IsGetPdrResponse get_pdr_answer_bytes a bytes)
    (λ outcome. (head : ResponseHeadValue)
    × Spells IsGetPdrResponse get_pdr_answer_bytes (record { head = head; outcome = outcome }) bytes)

-- the header is that of an answer to GetPDR
abbrev pub IsPartHeader : HeaderValue → Type 0
IsPartHeader h = (h.kind ≡ Response) × (h.pldm_type ≡ type_of GetPdr) × (h.command ≡ command_byte GetPdr)

abbrev pub IsAskingWord : MessageValue → WordValue → Type 0
IsAskingWord m w = (r : RequestMessage PartRequest) × Spells IsGetPdrRequest get_pdr_request_bytes r m.bytes
    × (w ≡ asked_part m r)

abbrev pub IsTellingWord : MessageValue → WordValue → Type 0
IsTellingWord m w = (h : HeaderValue) × BeginsWith h m.bytes × IsPartHeader h
    × ((told : Option PartAnswer) × IsPartTold m.bytes told × (w ≡ told_part m h told))

-- a request for a terminus ID, from the message's source
abbrev pub asked_tid : MessageValue → RequestMessage (Unit {0}) → WordValue
asked_tid m r = record {
  requester = m.source;
  responder = m.destination;
  tag = m.tag;
  instance = r.head.instance;
  body = AsksTid;
}

-- an answer to one, from the message's source
abbrev pub told_tid : MessageValue → ResponseMessage ℕ → WordValue
told_tid m a = record {
  requester = m.destination;
  responder = m.source;
  tag = m.tag;
  instance = a.head.instance;
  body = TellsTid a.outcome;
}

abbrev pub IsTidAskingWord : MessageValue → WordValue → Type 0
IsTidAskingWord m w = (r : RequestMessage (Unit {0})) × Spells IsGetTid get_tid_bytes r m.bytes × (w ≡ asked_tid m r)

abbrev pub IsTidTellingWord : MessageValue → WordValue → Type 0
IsTidTellingWord m w =
    (a : ResponseMessage ℕ) × Spells IsGetTidResponse get_tid_answer_bytes a m.bytes × (w ≡ told_tid m a)

-- the message's bytes ask for one of these, or answer one
abbrev pub IsQuestion : MessageValue → WordValue → Type 0
IsQuestion m w = IsRequestWord m w ⊎ (IsAskingWord m w ⊎ IsTidAskingWord m w)

abbrev pub IsReply : MessageValue → WordValue → Type 0
IsReply m w = IsResponseWord m w ⊎ (IsTellingWord m w ⊎ IsTidTellingWord m w)

-- who owns the tag asks, and who doesn't answers
abbrev pub IsSaid : (owns : Bool) → MessageValue → WordValue → Type 0
IsSaid true m w = IsQuestion m w
IsSaid false m w = IsReply m w

-- what the message says
abbrev pub IsWord : MessageValue → WordValue → Type 0
IsWord m w = IsSaid m.owner m w

-- What its bytes say, where it says the other of who owns the tag. Such a message is taken for nothing else.
abbrev pub IsMisowned : MessageValue → WordValue → Type 0
IsMisowned m w = IsSaid (not m.owner) m w

abbrev pub IsNoWord : MessageValue → Type 0
IsNoWord m = (w : WordValue) → ¬ IsWord m w

abbrev pub IsNotMisowned : MessageValue → Type 0
IsNotMisowned m = (w : WordValue) → ¬ IsMisowned m w

-- what the message says was added, if it says one of these
abbrev pub AddsWord : MessageValue → List WordValue → List WordValue → Type 0
AddsWord m old new = (IsNoWord m × (new ≡ old)) ⊎ ((w : WordValue) × IsWord m w × (new ≡ old ++ w ∷ []))

-- what these messages say, in their order
pub data AreWords : List MessageValue → List WordValue → Type 0 where
  None : AreWords [] []
  Other : (ms : List MessageValue) (ws : List WordValue) (m : MessageValue) → AreWords ms ws → IsNoWord m
      → AreWords (ms ++ m ∷ []) ws
  More : (ms : List MessageValue) (ws : List WordValue) (m : MessageValue) (w : WordValue) → AreWords ms ws → IsWord m w
      → AreWords (ms ++ m ∷ []) (ws ++ w ∷ [])
