-- Why a text gives no value, by the error.
use Rattle.std.specs.Prelude.{◌≡◌, ℕ, ◌<◌, ◌⊎◌, List, length, Option, Result, Err, ⊤}
use Rattle.json.{specs.Json.{Json}, specs.Strict.{HasUniqueKeys}}
use Rattle.serde_json.specs.Data.{Data}
use Rattle.net_plan.{specs.Stream.{TakesMoreThan}, specs.Texts.{IsJson, IsNoJson, HasSingleKeys, HasDoubledKey, Gave}, specs.Trees.{data_of}, specs.declared.error.ValueFault.{ValueFault}, specs.declared.error.PlanError.{PlanError}, specs.declared.error.PlanError.TheVariants.{NotJson, WrongKind, MissingKey, UnknownKey, OutOfRange, UnknownName, BadHex, OverLimit, Doubled, Device, OutOfMemory}, specs.Limits.{most_text_bytes}}
use Rattle.net_plan.specs.declared.error.ValueFault.TheVariants as fault

-- the value is R to nothing, and its first fault in the order of tests is this one
abbrev pub IsFaultyValue : {A : Type 0} → (Data → Result A ValueFault) → (Data → A → Type 0) → ValueFault → Data
    → Type 0
IsFaultyValue {A} said R first d = (said d ≡ Err first) × ((x : A) → ¬ R d x)

-- the bytes are JSON of a value that is R to nothing, and whose first fault in the order of tests is this one
abbrev pub IsFaulty : {A : Type 0} → (Data → Result A ValueFault) → (Data → A → Type 0) → ValueFault → List ℕ → Type 0
IsFaulty said R first text = (d : Data) × IsJson text d × IsFaultyValue said R first d

-- the first fault of the value, if it has one, is a name that is not known
abbrev pub IsWellButForNames : {A : Type 0} → (Data → Result A ValueFault) → Data → Type 0
IsWellButForNames said d = (first : ValueFault) → said d ≡ Err first → first ≡ fault.UnknownName

-- the bytes are JSON in which some object has a key twice, and no fault comes before that in the order of tests
abbrev pub IsDoubled : {A : Type 0} → (Data → Result A ValueFault) → List ℕ → Type 0
IsDoubled said text = (d : Data) × IsJson text d × HasDoubledKey text × IsWellButForNames said d

-- why bytes are no JSON value
abbrev pub IsNoValue : List ℕ → PlanError → Type 0
IsNoValue text NotJson = IsNoJson text
IsNoValue text OverLimit = most_text_bytes < length text
IsNoValue text OutOfMemory = ⊤
IsNoValue text _ = ⊥

-- why a tree stands for nothing
abbrev pub IsNoneFor : {A : Type 0} → (Data → Result A ValueFault) → (Data → A → Type 0) → Json → PlanError → Type 0
IsNoneFor said R j NotJson = ⊥
IsNoneFor said R j WrongKind = IsFaultyValue said R fault.WrongKind (data_of j)
IsNoneFor said R j MissingKey = IsFaultyValue said R fault.MissingKey (data_of j)
IsNoneFor said R j UnknownKey = IsFaultyValue said R fault.UnknownKey (data_of j)
IsNoneFor said R j OutOfRange = IsFaultyValue said R fault.OutOfRange (data_of j)
IsNoneFor said R j UnknownName = IsFaultyValue said R fault.UnknownName (data_of j) × HasUniqueKeys j
IsNoneFor said R j BadHex = IsFaultyValue said R fault.BadHex (data_of j)
IsNoneFor said R j OverLimit = IsFaultyValue said R fault.OverLimit (data_of j)
IsNoneFor said R j Doubled =
    IsFaultyValue said R fault.Doubled (data_of j) ⊎ ((¬ HasUniqueKeys j) × IsWellButForNames said (data_of j))
IsNoneFor said R j Device = ⊥
IsNoneFor said R j OutOfMemory = ⊤

-- why bytes give no value
abbrev pub IsRefused : {A : Type 0} → (Data → Result A ValueFault) → (Data → A → Type 0) → List ℕ → PlanError → Type 0
IsRefused said R text NotJson = IsNoJson text
IsRefused said R text WrongKind = IsFaulty said R fault.WrongKind text
IsRefused said R text MissingKey = IsFaulty said R fault.MissingKey text
IsRefused said R text UnknownKey = IsFaulty said R fault.UnknownKey text
IsRefused said R text OutOfRange = IsFaulty said R fault.OutOfRange text
IsRefused said R text UnknownName = IsFaulty said R fault.UnknownName text × HasSingleKeys text
IsRefused said R text BadHex = IsFaulty said R fault.BadHex text
IsRefused said R text OverLimit = (most_text_bytes < length text) ⊎ IsFaulty said R fault.OverLimit text
IsRefused said R text Doubled = IsFaulty said R fault.Doubled text ⊎ IsDoubled said text
IsRefused said R text Device = ⊥
IsRefused said R text OutOfMemory = ⊤

-- why what a source gave is no JSON value; whether the source failed is told by its count
abbrev pub GaveNoValue : Option (List ℕ) → Option (List ℕ) → PlanError → Type 0
GaveNoValue old new NotJson = Gave most_text_bytes old new IsNoJson
GaveNoValue old new OverLimit = TakesMoreThan most_text_bytes old new
GaveNoValue old new Device = ⊤
GaveNoValue old new OutOfMemory = ⊤
GaveNoValue old new _ = ⊥

-- why what a source gave is none of these values; whether the source failed is told by its count
abbrev pub GaveNone : {A : Type 0} → (Data → Result A ValueFault) → (Data → A → Type 0) → Option (List ℕ)
    → Option (List ℕ) → PlanError → Type 0
GaveNone said R old new OverLimit =
    TakesMoreThan most_text_bytes old new ⊎ Gave most_text_bytes old new (IsFaulty said R fault.OverLimit)
GaveNone said R old new Device = ⊤
GaveNone said R old new OutOfMemory = ⊤
GaveNone said R old new e = Gave most_text_bytes old new (λ text. IsRefused said R text e)
