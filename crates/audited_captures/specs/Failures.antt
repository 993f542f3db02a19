-- Answers that fail, and what is told of them (DSP0236, "MCTP control message completion codes").
use Rattle.std.{specs.Prelude.{ℕ, ◌==◌, ◌||◌, Bool, true, false, List, [], ◌∷◌, ◌++◌, codes, if◌then◌else◌}, specs.List.{flat_map}}
use Rattle.hex.specs.Hex.{encode_lower}
use Rattle.mctp_control.specs.Responses.{AnswerValue, EidSet, EidTold, PoolTold, EntriesTold, Failed}
use Rattle.audited_captures.{specs.Lines.{LineValue}, specs.Readings.{PartValue}, specs.declared.failures.Topic.{Topic}, specs.declared.lines.Finding.{Finding}, specs.declared.lines.Finding.TheVariants.{Silent, Differs}}
use Rattle.audited_captures.specs.declared.failures.Topic.TheVariants as topic

-- The command is of the topic: Set Endpoint ID and Get Endpoint ID of the endpoint ID, Allocate Endpoint IDs of the
-- pool, and any of what was asked of a routing table.
abbrev pub is_of : Topic → ℕ → Bool
is_of topic.Eid command = command == 1 || command == 2
is_of topic.Pool command = command == 8
is_of topic.Table command = true

-- the answer is a failure, to a command of the topic
abbrev pub fails : Topic → AnswerValue → Bool
fails about (Failed command code) = is_of about command
fails about (EidSet status eid size) = false
fails about (EidTold eid status medium) = false
fails about (PoolTold status size first) = false
fails about (EntriesTold next entries) = false

-- its completion code
abbrev pub code_if : Topic → AnswerValue → List ℕ
code_if about (Failed command code) = if is_of about command then code ∷ [] else []
code_if about (EidSet status eid size) = []
code_if about (EidTold eid status medium) = []
code_if about (PoolTold status size first) = []
code_if about (EntriesTold next entries) = []

-- the completion codes of all that fail, in their order
abbrev pub failures_of : Topic → List AnswerValue → List ℕ
failures_of about answers = flat_map (code_if about) answers

-- those of the answers about a routing table
abbrev pub failures_in : List PartValue → List ℕ
failures_in parts = flat_map (λ p. code_if topic.Table p.answer) parts

-- a completion code in hex
abbrev pub code_words : ℕ → List ℕ
code_words code = codes " " ++ encode_lower (code ∷ [])

abbrev pub failed_text : (words : List ℕ) → (failures : List ℕ) → List ℕ
failed_text words failures = words ++ (codes " failed" ++ flat_map code_words failures)

-- a remark where it doesn't count
abbrev pub failed_finding : (is_remark : Bool) → Finding
failed_finding is_remark = if is_remark then Silent else Differs

-- the line of answers that fail, if some do
abbrev pub failed_lines : (is_remark : Bool) → (words : List ℕ) → (failures : List ℕ) → List LineValue
failed_lines is_remark words [] = []
failed_lines is_remark words (c ∷ cs) =
    record { text = failed_text words (c ∷ cs); finding = failed_finding is_remark } ∷ []
