-- What is told of a text that is refused.
use Rattle.std.{specs.Prelude.{◌≡◌, ◌≤◌, ◌<◌, ℕ, List, length, Some, IsUtf8}, specs.Str.{IsValidUpTo}}
use Rattle.json.specs.Json.{Json}
use Rattle.net_plan.{specs.Texts.{IsJson, IsTree, IsNoJson}, specs.Trees.{data_of}, specs.Reading.{error_of}, specs.declared.error.PlanError.{PlanError}, specs.Limits.{most_text_bytes}}
use Rattle.net_pointers.{specs.Asks.{Sort}, specs.OrderOfTests.{IsTold, fault_in}, specs.declared.syntax.JsonFault.{JsonFault}, specs.declared.syntax.JsonFault.TheVariants.{NotUtf8, Unreadable}, specs.declared.texts.TextTrouble.{TextTrouble}, specs.declared.texts.TextTrouble.TheVariants.{TooLong, NotJson, Wrong}}
use Rattle.net_plan.specs.declared.error.PlanError.TheVariants as error

-- Where a text stops being JSON: at the first byte that is no UTF-8, or at some place of a text that is UTF-8. That it
-- stops being JSON there, and what may stand there, is only tested.
abbrev pub IsFaultOfJson : List ℕ → JsonFault → Type 0
IsFaultOfJson text (NotUtf8 offset) = (¬ IsUtf8 text) × IsValidUpTo text offset
IsFaultOfJson text (Unreadable offset wanted) = IsUtf8 text × (offset ≤ length text)

-- the text is JSON of a tree of which P holds
abbrev pub IsJsonOf : List ℕ → (Json → Type 0) → Type 0
IsJsonOf text P = (j : Json) × IsTree text j × IsJson text (data_of j) × P j

-- what is told of a text that is no value of JSON: first whether it is too long
abbrev pub IsToldOfNoValue : List ℕ → TextTrouble → Type 0
IsToldOfNoValue text (TooLong count) = (count ≡ length text) × (most_text_bytes < length text)
IsToldOfNoValue text (NotJson fault) = (length text ≤ most_text_bytes) × IsNoJson text × IsFaultOfJson text fault
IsToldOfNoValue text (Wrong trouble) = ⊥

-- what is told of a text of a sort that is refused
abbrev pub IsToldOfText : Sort → List ℕ → TextTrouble → Type 0
IsToldOfText s text (TooLong count) = IsToldOfNoValue text (TooLong count)
IsToldOfText s text (NotJson fault) = IsToldOfNoValue text (NotJson fault)
IsToldOfText s text (Wrong trouble) =
    (length text ≤ most_text_bytes) × IsJsonOf text (λ j. IsTold s j (Some trouble))

-- why the reader refuses the text
abbrev pub cause_of : TextTrouble → PlanError
cause_of (TooLong count) = error.OverLimit
cause_of (NotJson fault) = error.NotJson
cause_of (Wrong trouble) = error_of (fault_in trouble)
