-- What is gathered of an event, a key after another.
use Rattle.std.specs.Prelude.{ℕ, ◌+◌, codes, List, [], ◌∷◌, Option, Some, is_some, if◌then◌else◌}
use Rattle.json.specs.Json.{Members, object}
use Rattle.serde_json.specs.Data.{Data}
use Rattle.net_plan.{specs.EventText.{IsBit, IsEventOf}, specs.Gathered.{Slot, slot, AreParts, IsGathered, IsPlain}, specs.JsonWords.{IsString, IsName, IsHex, IsTruth, IsNumberWithin}, specs.NameIndexes.{IsIndexOf}, specs.PlanText.{IsByte, IsWord}, specs.Trees.{data_of}, specs.declared.event_parts.EventParts.{EventParts}, specs.declared.event_format.Format.TheVariants.{Three}}
use Rattle.plan_values.specs.EventValues.{EventEntry}

abbrev pub event_slots : EventParts → List Slot
event_slots p =
    slot (codes "do") (λ d text. IsString d text.now) p.does ∷ slot (codes "node") (λ d name. IsName d name.now) p.node
    ∷ slot (codes "bytes") (λ d v. IsHex d v.items) p.bytes ∷ slot (codes "flight") IsWord p.flight
    ∷ slot (codes "keep") IsTruth p.keep ∷ slot (codes "source") IsByte p.source
    ∷ slot (codes "tag") (λ d tag. IsNumberWithin 0 7 d tag.value) p.tag ∷ slot (codes "owner") IsBit p.owner
    ∷ slot (codes "eid") (IsNumberWithin 8 254) p.eid ∷ slot (codes "count") (IsNumberWithin 8 4079) p.count
    ∷ slot (codes "walker") IsWord p.walker ∷ []

-- 1 for a key that was read, 0 for one that was not
abbrev pub given : {A : Type 0} → Option A → ℕ
given o = if is_some o then 1 else 0

-- how many keys were read beside `do`
abbrev pub keys_given : EventParts → ℕ
keys_given p =
    given p.node + given p.bytes + given p.flight + given p.keep + given p.source + given p.tag + given p.owner
    + given p.eid + given p.count + given p.walker

-- an event of format 3 at the nodes whose indices are found
abbrev pub IsEventBy : (List ℕ → Option ℕ) → Data → EventEntry → Type 0
IsEventBy find d e = (names : List (List ℕ)) → IsIndexOf find names → IsEventOf Three names d e

-- an object of these parts, where this word stands at `do`, is this event
abbrev pub IsMadeOf : List ℕ → (List ℕ → Option ℕ) → EventParts → EventEntry → Type 0
IsMadeOf word find p e =
    (ms : Members) → AreParts (event_slots p) ms → IsGathered (codes "do") IsString (Some word) ms
    → IsEventBy find (data_of (object ms)) e × IsPlain (object ms)
