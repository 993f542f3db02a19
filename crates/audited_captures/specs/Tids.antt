-- What devices told of their terminus IDs, beside the plan (DSP0240, GetTID).
use Rattle.std.{specs.Prelude.{ℕ, ◌==◌, ◌||◌, Bool, not, true, false, List, [], ◌∷◌, ◌++◌, codes, Option, None, Some, Result, Ok, Err, map, option_map, option_to_list, if◌then◌else◌}, specs.Fmt.{decimal}, specs.List.{flat_map, list_any}}
use Rattle.pldm_message.{specs.Heads.{outcome_value}, specs.declared.completion_code.CompletionCode.{CompletionCode}, specs.declared.tid.Tid.{Tid}}
use Rattle.plan_values.specs.declared.nodes.Node.{Node}
use Rattle.audited_captures.{specs.Exchanges.{concerns, last_that}, specs.Failures.{failed_lines}, specs.Identities.{told_lines}, specs.Lines.{LineValue, difference, note}, specs.Words.{WordValue, BodyValue, AsksTid, TellsTid}}

abbrev pub tid_values : List (Result Tid CompletionCode) → List (Result ℕ ℕ)
tid_values answers = map (λ a. outcome_value (λ tid. tid.value) a) answers

-- an answer to what asked for the terminus ID: the ID, or a completion code
abbrev pub tid_between : BodyValue → BodyValue → Option (Result ℕ ℕ)
tid_between AsksTid (TellsTid outcome) = Some outcome
tid_between asks answers = None

abbrev pub tid_ended : WordValue → Option WordValue → Option (Result ℕ ℕ)
tid_ended word None = None
tid_ended word (Some earlier) = tid_between earlier.body word.body

-- what a word of an endpoint ID's device answers, if the last word before it that concerns it asks for the terminus ID
abbrev pub tid_of : ℕ → List WordValue → WordValue → Option (Result ℕ ℕ)
tid_of eid before word =
    if word.responder == eid then tid_ended word (last_that (concerns word) before) else None

-- what an endpoint ID's device answered of its terminus ID, in the order of the answers
pub data AreTids (eid : ℕ) : List WordValue → List (Result ℕ ℕ) → Type 0 where
  Empty : AreTids eid [] []
  More : (ws : List WordValue) (ts : List (Result ℕ ℕ)) (w : WordValue) → AreTids eid ws ts
      → AreTids eid (ws ++ w ∷ []) (ts ++ option_to_list (tid_of eid ws w))

-- the planned terminus ID, where a terminus is planned
abbrev pub planned_tid : Node → Option ℕ
planned_tid node = option_map (λ terminus. terminus.tid) node.terminus

abbrev pub is_that : Option ℕ → ℕ → Bool
is_that None tid = false
is_that (Some planned) tid = planned == tid

abbrev pub tid_words : Option ℕ → List ℕ
tid_words None = codes "none"
tid_words (Some tid) = decimal tid

-- a terminus ID is told: 0 says that there is none yet
abbrev pub tells_tid : Result ℕ ℕ → Bool
tells_tid (Ok tid) = not (tid == 0)
tells_tid (Err code) = false

-- what an answer says otherwise than planned
abbrev pub tid_line : List ℕ → (planned : Option ℕ) → Result ℕ ℕ → List LineValue
tid_line name planned (Ok tid) =
    if tid == 0 || is_that planned tid then []
    else difference (name ++ (codes " tid " ++ (decimal tid ++ (codes " planned " ++ tid_words planned)))) ∷ []
tid_line name planned (Err code) = []

-- its completion code, where it fails
abbrev pub tid_failure : Result ℕ ℕ → List ℕ
tid_failure (Ok tid) = []
tid_failure (Err code) = code ∷ []

abbrev pub is_none : Option ℕ → Bool
is_none None = true
is_none (Some tid) = false

-- Of the answers of one device: what they say of its terminus ID, and which fail. Those are a remark where another one
-- tells a terminus ID, or no terminus is planned.
abbrev pub tid_lines : List ℕ → (planned : Option ℕ) → List (Result ℕ ℕ) → List LineValue
tid_lines name planned tids =
    told_lines (list_any tells_tid tids) (note (name ++ (codes " tid match " ++ tid_words planned)))
    (flat_map (tid_line name planned) tids)
    ++ failed_lines (list_any tells_tid tids || is_none planned) (name ++ codes " tid") (flat_map tid_failure tids)
