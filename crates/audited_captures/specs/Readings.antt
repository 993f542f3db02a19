-- What requesters read of a bridge's routing table (DSP0236, "Get Routing Table Entries").
use Rattle.std.{specs.Prelude.{ℕ, ◌==◌, List, [], ◌∷◌, ◌++◌, if◌then◌else◌}, specs.List.{flat_map}}
use Rattle.mctp_control.{specs.RouteEntries.{EntryValue}, specs.Requests.{CommandValue, SetsEid, GetsEid, AllocatesEids, GetsEntries}, specs.Responses.{AnswerValue, EidSet, EidTold, PoolTold, EntriesTold, Failed, answer_value}}
use Rattle.audited_captures.{specs.Exchanges.{ExchangeValue}, specs.declared.readings.Part.{Part}}

-- the requester, the entry handle that it asked for, and what it was answered
pub record PartValue : Type 0 where
  pub requester : ℕ
  pub handle : ℕ
  pub answer : AnswerValue

abbrev pub part_value : Part → PartValue
part_value p = record { requester = p.requester.value; handle = p.handle; answer = answer_value p.answer.now }

abbrev pub part_asked : ExchangeValue → CommandValue → List PartValue
part_asked x (GetsEntries handle) = record { requester = x.requester; handle = handle; answer = x.answer } ∷ []
part_asked x (SetsEid operation reserved eid) = []
part_asked x GetsEid = []
part_asked x (AllocatesEids operation reserved size first) = []

abbrev pub part_of : ℕ → ExchangeValue → List PartValue
part_of eid x = if x.responder == eid then part_asked x x.command else []

-- what was answered from an endpoint ID when routing table entries were asked for
abbrev pub parts_of : ℕ → List ExchangeValue → List PartValue
parts_of eid xs = flat_map (part_of eid) xs

-- what a part is to a reading: one of another requester's, no part of it, one that fails, its last part, or one after
-- which it goes on with a handle
pub data Turn : Type 0 where
  Other : Turn
  Fails : Turn
  Refuses : Turn
  Ends : List EntryValue → Turn
  GoesOn : ℕ → List EntryValue → Turn

-- Next handle 255 ends a reading. Next handle 0 would begin it anew, so no reading goes on with it.
abbrev pub turn_by : AnswerValue → Turn
turn_by (EntriesTold next entries) =
    if next == 255 then Ends entries else if next == 0 then Fails else GoesOn next entries
turn_by (EidSet status eid size) = Fails
turn_by (EidTold eid status medium) = Fails
turn_by (PoolTold status size first) = Fails
turn_by (Failed command code) = Refuses

abbrev pub turn_of : (requester due : ℕ) → PartValue → Turn
turn_of requester due p =
    if p.requester == requester then (if p.handle == due then turn_by p.answer else Fails) else Other

-- how a reading ended: with these entries, at an answer that fails, or not at all
pub data ReadingValue : Type 0 where
  Read : List EntryValue → ReadingValue
  Refused : ReadingValue
  Unended : ReadingValue

-- a reading with these entries before it
abbrev pub behind : List EntryValue → ReadingValue → ReadingValue
behind entries (Read more) = Read (entries ++ more)
behind entries Refused = Refused
behind entries Unended = Unended

abbrev pub told_by : Turn → (ℕ → ReadingValue) → ℕ → ReadingValue
told_by Other rest due = rest due
told_by Fails rest due = Unended
told_by Refuses rest due = Refused
told_by (Ends entries) rest due = Read entries
told_by (GoesOn next entries) rest due = behind entries (rest next)

-- The entries that a requester reads from a handle on: those of its answers, as long as each is asked for with the next
-- handle of the one before, up to the one with next handle 255.
abbrev pub read_from : (requester due : ℕ) → List PartValue → ReadingValue
read_from requester due [] = Unended
read_from requester due (p ∷ ps) =
    told_by (turn_of requester due p) (λ next. read_from requester next ps) due

-- what is read with the first of these parts, if it begins a reading: entry handle 0 was asked for
abbrev pub begun_with : PartValue → List PartValue → List ReadingValue
begun_with p ps = if p.handle == 0 then read_from p.requester 0 (p ∷ ps) ∷ [] else []

-- all readings, in the order in which they begin
abbrev pub readings : List PartValue → List ReadingValue
readings [] = []
readings (p ∷ ps) = begun_with p ps ++ readings ps
