-- Why a text doesn't read, as it is told.
use Rattle.std.specs.Prelude.{◌≡◌, ◌≢◌, ⊤, ℕ, List, length, Some, Result, Ok, Err, string_bytes}
use Rattle.json.specs.Json.{Json}
use Rattle.serde_json.specs.Data.{Data}
use Rattle.net_plan.{specs.Refusals.{IsRefused}, specs.declared.error.ValueFault.{ValueFault}}
use Rattle.net_pointers.{specs.Asks.{Sort, plan_text}, specs.OrderOfTests.{IsTold}, specs.TextTroubles.{IsToldOfNoValue, IsToldOfText, cause_of}, specs.declared.order.Trouble.{Trouble}, specs.declared.texts.TextTrouble.TheVariants.{TooLong, Wrong}}
use Rattle.reading_texts.{specs.TroubleLines.{AreLines, AreTroubleLines}, specs.declared.text_error.TextError.{TextError}, specs.declared.text_error.TextError.TheVariants.{Faulty, OutOfMemory}, specs.declared.text_error.TextFault.{TextFault}}
use Rattle.net_plan.specs.declared.error.PlanError.TheVariants as error

-- the fault is what is wrong with the text of a sort, with the lines that tell it
abbrev pub IsFaultOfText : Sort → List ℕ → TextFault → Type 0
IsFaultOfText s text f = IsToldOfText s text f.trouble × AreTroubleLines s text f.trouble (string_bytes f.lines)

-- for this fault the text is R to nothing; or memory was wanting
abbrev pub IsToldAs : {A : Type 0} → Sort → (Data → Result A ValueFault) → (Data → A → Type 0) → List ℕ → TextError
    → Type 0
IsToldAs s said R text OutOfMemory = ⊤
IsToldAs s said R text (Faulty f) = IsFaultOfText s text f × IsRefused said R text (cause_of f.trouble)
    × (cause_of f.trouble ≢ error.OutOfMemory)

-- of a text that is too long nothing is given, and its length is told; or memory was wanting
abbrev pub IsToldTooLong : {A : Type 0} → List ℕ → Result A TextError → Type 0
IsToldTooLong text (Ok x) = ⊥
IsToldTooLong text (Err OutOfMemory) = ⊤
IsToldTooLong text (Err (Faulty f)) = f.trouble ≡ TooLong (length text)

-- ---- steps

-- what is told of a text of a sort; or memory was wanting
abbrev pub IsToldOf : Sort → List ℕ → TextError → Type 0
IsToldOf s text OutOfMemory = ⊤
IsToldOf s text (Faulty f) = IsFaultOfText s text f

-- what is told of a text that is no value of JSON, whatever it is to be
abbrev pub IsNoValueTold : List ℕ → TextError → Type 0
IsNoValueTold text OutOfMemory = ⊤
IsNoValueTold text (Faulty f) =
    IsToldOfNoValue text f.trouble × AreTroubleLines plan_text text f.trouble (string_bytes f.lines)

-- what is told of the value that is a tree
abbrev pub IsFaultOfValue : Sort → List ℕ → Json → TextFault → Type 0
IsFaultOfValue s text j f = (trouble : Trouble) × (f.trouble ≡ Wrong trouble) × IsTold s j (Some trouble)
    × AreLines s text j trouble (string_bytes f.lines)
