-- A walker, which is fed the answers to its requests one by one.
use Rattle.std.specs.Prelude.{◌≡◌, ◌≢◌, ◌⊎◌, ℕ, ◌+◌, ◌<◌, Bool, true, false, List, [], ◌∷◌, ◌++◌, length, sum_by, Option, Some, None, option_map, Result, Ok, Err, MatchOption, MatchResult, ◌==◌, if◌then◌else◌}
use Rattle.mctp_transport.{specs.Wire.{Spells}, specs.First.{First}}
use Rattle.pldm_message.{specs.declared.kind.RequestKind.TheVariants.{Request}, specs.Headers.{HeaderValue, BeginsWith}, specs.Messages.{RequestMessage, ResponseMessage, ResponseHeadValue}, specs.Pdrs.{PartRequest, IsPartRequest, Part, IsGetPdrResponse, get_pdr_request_bytes, get_pdr_answer_bytes}}
use Rattle.pdr_repository.{specs.Records.{Entry, IsLawful, bytes_by_place}, specs.Parts.{PartAnswer, AnswersPart}, specs.Answers.{Answers}, specs.Walks.{Exchange, Walk, Collects, IsBeginning, exchanges, follows, due_after}, specs.Faults.{Judges, Room}, specs.declared.walk_fault.Step.{Step as WalkStep}, specs.declared.walk_fault.Step.TheVariants.{More, Record, Done}, specs.declared.walk_fault.WalkFault.{WalkFault}, specs.declared.walk_fault.WalkFault.TheVariants.{FailedBefore, NotAsked, Unreadable, RecordChanged, OtherCode, TooMuch, OutOfMemory}}

-- What a walker holds: its limits, the records that it has collected, the data of the record under way, the request
-- that is due (none once it is done), the instance ID under which that request is outstanding, whether it has
-- failed, and how many answers it has taken.
pub record WalkState : Type 0 where
  pub count : ℕ
  pub max_records : ℕ
  pub max_bytes : ℕ
  pub records : List (List ℕ)
  pub under_way : List ℕ
  pub due : Option PartRequest
  pub waiting : Option ℕ
  pub failed : Bool
  pub taken : ℕ

abbrev pub room_of : WalkState → Room
room_of w =
    record {
      max_records = w.max_records;
      max_bytes = w.max_bytes;
      records = length w.records;
      bytes = sum_by length w.records + length w.under_way;
    }

-- before the first request
abbrev pub fresh : ℕ → ℕ → ℕ → WalkState
fresh count max_records max_bytes = record {
  count = count;
  max_records = max_records;
  max_bytes = max_bytes;
  records = [];
  under_way = [];
  due = due_after count [];
  waiting = None;
  failed = false;
  taken = 0;
}

-- The walker stands for these exchanges: its records, its data under way and the request that is due are
-- what they lead to, and it has not failed.
pub record HasTakenIn (w : WalkState) (xs : List Exchange) : Type 0 where
  pub collects : Collects xs w.records w.under_way
  pub due : w.due ≡ due_after w.count xs
  pub goes : w.failed ≡ false

-- the request under an instance ID
abbrev pub asked_under : ℕ → PartRequest → RequestMessage PartRequest
asked_under id r = record { head = record { kind = Request; reserved = false; instance = id }; body = r }

-- the next request's bytes: none once done or failed, else those of the one that is due, which is outstanding then
abbrev pub Asks : WalkState → ℕ → Option (List ℕ) → WalkState → Type 0
Asks old id request new =
    First ((old.failed ≡ true) ⊎ (old.due ≡ None)) ((request ≡ None) × (new ≡ old))
    ((r : PartRequest) × (old.due ≡ Some r) × IsPartRequest r
    × (request ≡ Some (get_pdr_request_bytes (asked_under id r))) × (new ≡ record old { waiting = Some id }))

-- nothing changes
abbrev pub Ignores : WalkState → WalkFault → Result WalkStep WalkFault → WalkState → Type 0
Ignores old fault result new = (result ≡ Err fault) × (new ≡ old)

-- the walker has failed, and keeps what it has collected
abbrev pub Fails : WalkState → WalkFault → Result WalkStep WalkFault → WalkState → Type 0
Fails old fault result new = (result ≡ Err fault) × (new ≡ record old { failed = true; taken = old.taken + 1 })

-- the record that a part completes, if it does
abbrev pub completed : List ℕ → Part → List (List ℕ)
completed before p = if p.flag == 5 then p.bytes ∷ [] else (if p.flag == 4 then (before ++ p.bytes) ∷ [] else [])

-- the data of the record under way after a part
abbrev pub data_with : List ℕ → Part → List ℕ
data_with before p = if p.flag == 0 then p.bytes else (if p.flag == 1 then before ++ p.bytes else [])

-- what is held after a part that has no fault
abbrev pub state_after : WalkState → PartRequest → Part → WalkState
state_after old r p = record old {
  records = old.records ++ completed old.under_way p;
  under_way = data_with old.under_way p;
  due = follows r (Ok p);
  waiting = None;
  taken = old.taken + 1;
}

-- whether the record goes on, is complete, or was the last
abbrev pub step_after : Part → WalkStep
step_after p = if p.flag == 0 then More else (if p.flag == 1 then More else (if p.next == 0 then Done else Record))

-- the part is taken, or memory was refused and nothing changes
abbrev pub Proceeds : WalkState → PartRequest → Part → Result WalkStep WalkFault → WalkState → Type 0
Proceeds old r p result new =
    MatchResult result (λ step. (step ≡ step_after p) × (new ≡ state_after old r p))
    (λ fault. (fault ≡ OutOfMemory) × (new ≡ old))

-- what is done with the outcome of the request: a completion code, the first fault of the part, or else the part is
-- taken
abbrev pub TakesOutcome : WalkState → PartRequest → PartAnswer → Result WalkStep WalkFault → WalkState → Type 0
TakesOutcome old r (Err code) result new =
    First (code ≡ 0x83) (Fails old RecordChanged result new) (Fails old OtherCode result new)
TakesOutcome old r (Ok p) result new =
    (fault : Option WalkFault) × Judges (room_of old) old.records old.under_way r p fault
    × MatchOption fault (Proceeds old r p result new) (λ f. Fails old f result new)

-- the bytes are this answer to a GetPDR request
abbrev pub IsAnswerIn : List ℕ → ResponseMessage Part → Type 0
IsAnswerIn bytes m = Spells IsGetPdrResponse get_pdr_answer_bytes m bytes

-- what is done with a message under the outstanding ID: it is no answer, or its outcome decides
abbrev pub TakesMessage : WalkState → List ℕ → Result WalkStep WalkFault → WalkState → Type 0
TakesMessage old bytes result new =
    First ((m : ResponseMessage Part) → ¬ IsAnswerIn bytes m) (Fails old Unreadable result new)
    ((m : ResponseMessage Part) × (r : PartRequest) × IsAnswerIn bytes m × (old.due ≡ Some r)
    × TakesOutcome old r m.outcome result new)

-- What is done with bytes, in the order of the tests: failed before, nothing outstanding, no header,
-- another instance ID; then by the message.
abbrev pub Takes : WalkState → List ℕ → Result WalkStep WalkFault → WalkState → Type 0
Takes old bytes result new =
    First (old.failed ≡ true) (Ignores old FailedBefore result new)
    (First (old.waiting ≡ None) (Ignores old NotAsked result new)
    (First ((h : HeaderValue) → ¬ BeginsWith h bytes) (Fails old Unreadable result new)
    ((h : HeaderValue) × BeginsWith h bytes
    × First (old.waiting ≢ Some h.instance) (Ignores old NotAsked result new)
    (TakesMessage old bytes result new))))

-- What the step says: the record goes on, a record is complete and another is to be asked for, or the last record is
-- complete.
abbrev pub TellsStep : WalkStep → WalkState → WalkState → Type 0
TellsStep More old new = (new.records ≡ old.records) × (new.due ≢ None)
TellsStep Record old new = (bytes : List ℕ) × (new.records ≡ old.records ++ bytes ∷ []) × (new.due ≢ None)
TellsStep Done old new = (bytes : List ℕ) × (new.records ≡ old.records ++ bytes ∷ []) × (new.due ≡ None)

abbrev pub Tells : Result WalkStep WalkFault → WalkState → WalkState → Type 0
Tells result old new = MatchResult result (λ step. TellsStep step old new) (λ fault. Unit {0})

-- these bytes are an answer of a terminus with these records to the request that is
-- outstanding, of a walk that the walker stands for
pub record IsDueAnswer (old : WalkState) (bytes : List ℕ) (records : List Entry) (xs : List Exchange)
    (x : Exchange) : Type 0 where
  pub lawful : IsLawful records
  pub walk : Walk records old.count xs
  pub stands : HasTakenIn old xs
  pub due : old.due ≡ Some x.request
  pub answered : AnswersPart records x.request x.answer
  pub head : ResponseHeadValue
  pub waiting : old.waiting ≡ Some head.instance
  pub spelled : IsAnswerIn bytes (record { head = head; outcome = x.answer })

-- The walker stands for these exchanges, which are a walk: it has collected a beginning of the records by place, and at
-- the last step all of them, after exactly so many exchanges.
pub record WalksOn (records : List Entry) (xs : List Exchange) (step : WalkStep) (new : WalkState) : Type 0 where
  pub walk : Walk records new.count xs
  pub stands : HasTakenIn new xs
  pub beginning : IsBeginning new.records (bytes_by_place records)
  pub whole : step ≡ Done → new.records ≡ bytes_by_place records
  pub exact : step ≡ Done → length xs ≡ exchanges new.count records

-- Against such answers there is no fault but that there is too much or no memory, and a walker that takes one walks on.
abbrev pub TakesDueAnswer : WalkState → List ℕ → Result WalkStep WalkFault → WalkState → Type 0
TakesDueAnswer old bytes result new =
    (records : List Entry) (xs : List Exchange) (x : Exchange) → IsDueAnswer old bytes records xs x
    → MatchResult result (λ step. WalksOn records (xs ++ x ∷ []) step new)
    (λ fault. (fault ≡ TooMuch) ⊎ (fault ≡ OutOfMemory))

-- The request is the one that is due in each walk that the walker stands for, and asking doesn't change which those
-- are.
abbrev pub AsksWhatIsDue : WalkState → ℕ → Option (List ℕ) → WalkState → Type 0
AsksWhatIsDue old id request new =
    (xs : List Exchange) → HasTakenIn old xs
    → (request ≡ option_map (λ r. get_pdr_request_bytes (asked_under id r)) (due_after old.count xs))
    × HasTakenIn new xs

-- what a terminus with these records answers to a request under this instance ID is an answer to it, under the same ID
pub record AnswersWalker (records : List Entry) (id : ℕ) (r : PartRequest) (answer : Option (List ℕ)) : Type 0 where
  pub outcome : PartAnswer
  pub bytes : List ℕ
  pub is : answer ≡ Some bytes
  pub answered : AnswersPart records r outcome
  pub spelled : IsAnswerIn bytes (record { head = record { reserved = false; instance = id }; outcome = outcome })

-- every request of a walker is answered so
abbrev pub EveryRequestIsAnswered : Type 0
EveryRequestIsAnswered =
    (tid next_tid id : ℕ) (records : List Entry) (r : PartRequest) (answer : Option (List ℕ)) → IsLawful records
    → IsPartRequest r → id < 32
    → Answers tid records (get_pdr_request_bytes (asked_under id r)) answer next_tid → AnswersWalker records id r answer
