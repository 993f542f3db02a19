-- What is gathered of an object's members, one after another.
use Rattle.std.specs.Prelude.{ℕ, ◌≡◌, List, [], ◌∷◌, map, true, Option, Some, None, IsSome}
use Rattle.json.{specs.Json.{Json, array, Items, no_items, item, Members, no_members, member, value}, specs.Lex.{tokens}, specs.Token.{Token}, specs.Strict.{keys}}
use Rattle.serde_json.{specs.Data.{Data}, specs.Read.{max_depth}}
use Rattle.net_plan.{specs.Json.{is_among}, specs.Names.{names_differ}, specs.SingleKeys.{single, members_single}, specs.Trees.{data_of, fits, members_fit}}
use Rattle.json.specs.Find as find

-- the members, and one more after them
abbrev pub with_last : Members → List ℕ → Json → Members
with_last no_members k j = member k j no_members
with_last (member l i ms) k j = member l i (with_last ms k j)

-- its numbers are in range, and no object in it has a key twice
abbrev pub IsPlain : Json → Type 0
IsPlain j = (fits j ≡ true) × (single j ≡ true)

-- the same of an object's members, whose keys are among these
pub record ArePlain (known : List (List ℕ)) (ms : Members) : Type 0 where
  pub fit : members_fit ms ≡ true
  pub differ : names_differ (keys ms) ≡ true
  pub single : members_single ms ≡ true
  pub among : (k : List ℕ) → IsSome (find.get_member k ms) → is_among known k ≡ true

-- nothing stands there yet; or what stands there is R to the value
abbrev pub IsRead : {A : Type 0} → (Data → A → Type 0) → Option A → Option Json → Type 0
IsRead R None stands = stands ≡ None
IsRead R (Some x) stands = (j : Json) × (stands ≡ Some j) × R (data_of j) x

-- the same of what stands at a key
abbrev pub IsGathered : {A : Type 0} → List ℕ → (Data → A → Type 0) → Option A → Members → Type 0
IsGathered key R o ms = IsRead R o (find.get_member key ms)

-- a key of an object, and what holds of what stands there
abbrev pub Slot : Type 1
Slot = List ℕ × (Option Json → Type 0)

-- what may stand at a key, and what was read there
abbrev pub slot : {A : Type 0} → List ℕ → (Data → A → Type 0) → Option A → Slot
slot key R o = (key, IsRead R o)

abbrev pub AreRead : List Slot → Members → Type 0
AreRead [] ms = Unit {0}
AreRead (s ∷ slots) ms = s.1 (find.get_member s.0 ms) × AreRead slots ms

-- what was read at each key is that of these members, which have no other keys
pub record AreParts (slots : List Slot) (ms : Members) : Type 0 where
  pub plain : ArePlain (map (λ s. s.0) slots) ms
  pub read : AreRead slots ms

-- the tokens begin with a value of which P holds, whatever it is nested in, and go on with these
abbrev pub IsNext : List Token → List Token → (Json → Type 0) → Type 0
IsNext old new P = (j : Json) × ((depth : ℕ) → value depth old ≡ Some (j, new)) × P j

-- the tokens begin with a value, at a depth, that is one more member at a key
abbrev pub IsMore : ℕ → List ℕ → List Token → List Token → (Members → Type 0) → (Members → Type 0) → Type 0
IsMore depth key old new Before After =
    (j : Json) × (value depth old ≡ Some (j, new)) × ((ms : Members) → Before ms → After (with_last ms key j))

-- the tokens begin with a value, at a depth, of which P holds, and go on with these
abbrev pub IsThere : ℕ → List Token → List Token → (Json → Type 0) → Type 0
IsThere depth old new P = (j : Json) × (value depth old ≡ Some (j, new)) × P j

-- the items of an array are R to those of a list, one by one
abbrev pub EachIs : {A : Type 0} → (Json → A → Type 0) → Items → List A → Type 0
EachIs R no_items [] = Unit {0}
EachIs R (item j js) (x ∷ xs) = R j x × EachIs R js xs
EachIs R no_items (x ∷ xs) = ⊥
EachIs R (item j js) [] = ⊥

abbrev pub IsArrayOf : {A : Type 0} → (Json → A → Type 0) → Json → List A → Type 0
IsArrayOf R j xs = (js : Items) × (j ≡ array js) × EachIs R js xs

-- the text is JSON of a value that is R to x, and nothing in it is unusual
abbrev pub IsPlainText : {A : Type 0} → (Data → A → Type 0) → List ℕ → A → Type 0
IsPlainText R text x = (j : Json) × (value max_depth (tokens text) ≡ Some (j, [])) × IsPlain j × R (data_of j) x
