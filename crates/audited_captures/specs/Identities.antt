-- What devices said of their endpoint IDs and pools, beside the plan (DSP0236, "Set Endpoint ID", "Get Endpoint ID",
-- "Allocate Endpoint IDs").
use Rattle.std.{specs.Prelude.{ℕ, ◌+◌, ◌-◌, ◌==◌, ◌&&◌, ◌||◌, Bool, true, false, List, [], ◌∷◌, ◌++◌, codes, Option, None, Some, if◌then◌else◌}, specs.Fmt.{decimal}, specs.List.{flat_map, list_any}}
use Rattle.mctp_control.{specs.Requests.{CommandValue, SetsEid, GetsEid, AllocatesEids, GetsEntries}, specs.Responses.{AnswerValue, EidSet, EidTold, PoolTold, EntriesTold, Failed}}
use Rattle.plan_values.{specs.declared.nodes.Kind.{Kind}, specs.declared.nodes.Pool.{Pool}}
use Rattle.audited_captures.{specs.Exchanges.{ExchangeValue}, specs.Failures.{failures_of, failed_lines}, specs.Lines.{LineValue, difference, note, differences_or}}
use Rattle.plan_values.specs.declared.nodes.Kind.TheVariants as kind
use Rattle.audited_captures.specs.declared.failures.Topic.TheVariants as topic

-- Whose answer it is: the device's that the answer's source tells. A device that was to take an endpoint ID may not
-- have had it when it answered: there the endpoint ID that it was to take tells.
abbrev pub answered_by : (responder : ℕ) → CommandValue → ℕ
answered_by responder (SetsEid operation reserved eid) = eid
answered_by responder GetsEid = responder
answered_by responder (AllocatesEids operation reserved size first) = responder
answered_by responder (GetsEntries handle) = responder

abbrev pub is_answer_of : ℕ → ExchangeValue → Bool
is_answer_of eid x = answered_by x.responder x.command == eid

abbrev pub kind_number : Kind → ℕ
kind_number kind.Endpoint = 0
kind_number kind.Bridge = 1

abbrev pub kind_word : ℕ → List ℕ
kind_word n = if n == 0 then codes "endpoint" else if n == 1 then codes "bridge" else codes "reserved"

abbrev pub eid_line : List ℕ → (planned found : ℕ) → List LineValue
eid_line name planned found =
    if planned == found then []
    else difference (name ++ (codes " eid " ++ (decimal found ++ (codes " planned " ++ decimal planned)))) ∷ []

abbrev pub kind_line : List ℕ → (planned found : ℕ) → List LineValue
kind_line name planned found =
    if planned == found then []
    else difference (name ++ (codes " type " ++ (kind_word found ++ (codes " planned " ++ kind_word planned)))) ∷ []

-- what an answer says otherwise than planned of the device's endpoint ID, and of its type
abbrev pub identity_lines : List ℕ → (eid type : ℕ) → AnswerValue → List LineValue
identity_lines name eid type (EidSet status found size) = eid_line name eid found
identity_lines name eid type (EidTold found status medium) =
    eid_line name eid found ++ kind_line name type status.second
identity_lines name eid type (PoolTold status size first) = []
identity_lines name eid type (EntriesTold next entries) = []
identity_lines name eid type (Failed command code) = []

abbrev pub tells_eid : AnswerValue → Bool
tells_eid (EidSet status found size) = true
tells_eid (EidTold found status medium) = true
tells_eid (PoolTold status size first) = false
tells_eid (EntriesTold next entries) = false
tells_eid (Failed command code) = false

-- the endpoint IDs of a pool, in words
abbrev pub span_words : (first size : ℕ) → List ℕ
span_words first size =
    if size == 0 then codes "none"
    else decimal first ++ (codes " to " ++ decimal (first + size - 1))

abbrev pub first_of : Option Pool → ℕ
first_of None = 0
first_of (Some pool) = pool.first.value

abbrev pub size_of : Option Pool → ℕ
size_of None = 0
size_of (Some pool) = pool.size

abbrev pub same_span : (first size other_first other_size : ℕ) → Bool
same_span first size other_first other_size = size == other_size && (size == 0 || first == other_first)

abbrev pub pool_line : List ℕ → (first size found_first found_size : ℕ) → List LineValue
pool_line name first size found_first found_size =
    if same_span first size found_first found_size then []
    else difference (name ++ (codes " pool " ++ (span_words found_first found_size
    ++ (codes " planned " ++ span_words first size)))) ∷ []

-- what an answer says otherwise than planned of the device's pool
abbrev pub pool_lines_of : List ℕ → (first size : ℕ) → AnswerValue → List LineValue
pool_lines_of name first size (PoolTold status found_size found_first) =
    pool_line name first size found_first found_size
pool_lines_of name first size (EidSet status found wanted) = []
pool_lines_of name first size (EidTold found status medium) = []
pool_lines_of name first size (EntriesTold next entries) = []
pool_lines_of name first size (Failed command code) = []

abbrev pub tells_pool : AnswerValue → Bool
tells_pool (PoolTold status size first) = true
tells_pool (EidSet status found size) = false
tells_pool (EidTold found status medium) = false
tells_pool (EntriesTold next entries) = false
tells_pool (Failed command code) = false

-- the differences of the answers, or where there are none and something was told, that it is as planned
abbrev pub told_lines : Bool → LineValue → List LineValue → List LineValue
told_lines true as_planned ls = differences_or as_planned ls
told_lines false as_planned ls = []

-- Of the answers of one device: what they say of its endpoint ID and type, and which fail. Those are a remark where
-- another one tells the endpoint ID.
abbrev pub eid_lines : List ℕ → (eid type : ℕ) → List AnswerValue → List LineValue
eid_lines name eid type answers =
    told_lines (list_any tells_eid answers) (note (name ++ (codes " eid match " ++ decimal eid)))
    (flat_map (identity_lines name eid type) answers)
    ++ failed_lines (list_any tells_eid answers) (name ++ codes " eid") (failures_of topic.Eid answers)

-- And of its pool. Answers that fail are a remark where another one tells a pool, or none is planned.
abbrev pub pool_lines : List ℕ → (first size : ℕ) → List AnswerValue → List LineValue
pool_lines name first size answers =
    told_lines (list_any tells_pool answers) (note (name ++ (codes " pool match " ++ span_words first size)))
    (flat_map (pool_lines_of name first size) answers)
    ++ failed_lines (list_any tells_pool answers || size == 0) (name ++ codes " pool")
    (failures_of topic.Pool answers)

-- the answers of the device of an endpoint ID
abbrev pub answer_if : ℕ → ExchangeValue → List AnswerValue
answer_if eid x = if is_answer_of eid x then x.answer ∷ [] else []

abbrev pub answers_of : ℕ → List ExchangeValue → List AnswerValue
answers_of eid xs = flat_map (answer_if eid) xs
