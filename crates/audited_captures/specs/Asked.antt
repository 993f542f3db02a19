-- What was asked of a device, and whether it answered.
use Rattle.std.{specs.Prelude.{ℕ, ◌==◌, ◌&&◌, Bool, false, List, length, Result, if◌then◌else◌}, specs.List.{filter}}
use Rattle.audited_captures.{specs.Exchanges.{ExchangeValue}, specs.Identities.{answered_by, answers_of}, specs.RecordParts.{RecordPartValue}, specs.Words.{WordValue, BodyValue, Asks, Answers, AsksPart, TellsPart, AsksTid, TellsTid}}

abbrev pub is_asked_by_body : (eid responder : ℕ) → BodyValue → Bool
is_asked_by_body eid responder (Asks command) = answered_by responder command == eid
is_asked_by_body eid responder (AsksPart request) = responder == eid
is_asked_by_body eid responder (Answers answer) = false
is_asked_by_body eid responder (TellsPart told) = false
is_asked_by_body eid responder AsksTid = responder == eid
is_asked_by_body eid responder (TellsTid outcome) = false

-- the message asks something of the device of an endpoint ID
abbrev pub is_asked : ℕ → WordValue → Bool
is_asked eid w = is_asked_by_body eid w.responder w.body

-- the requests to the device of an endpoint ID
abbrev pub requests_to : ℕ → List WordValue → List WordValue
requests_to eid words = filter (is_asked eid) words

-- The device answered none of its requests: neither one of a control message, nor one for a part of a record or for a
-- terminus ID.
abbrev pub answered_nothing : ℕ → List ExchangeValue → List RecordPartValue → List (Result ℕ ℕ) → Bool
answered_nothing eid xs parts tids = length (answers_of eid xs) == 0 && (length parts == 0 && length tids == 0)

-- how many requests went to the device where it answered none of them
abbrev pub unanswered : ℕ → List WordValue → List ExchangeValue → List RecordPartValue → List (Result ℕ ℕ) → ℕ
unanswered eid words xs parts tids =
    if answered_nothing eid xs parts tids then length (requests_to eid words) else 0
