-- Sentences over JSON values.
use Rattle.std.specs.Prelude.{ℕ, ◌≡◌, ◌≢◌, ◌↔◌, ◌<◌, ◌≤◌, Bool, List, [], ◌∷◌, length, slice_get, Option, Some, None, Ok, IsSome, IsTrue, Contains}
use Rattle.hex.specs.Hex.{decode_of}
use Rattle.serde_json.{specs.Data.{Data, null, boolean, number, unsigned, string, array, object, Items, no_items, item, Members}, specs.Find.{get, get_member}}
use Rattle.plan_values.specs.NameText.{is_name}

-- an object that has exactly these keys
abbrev pub HasKeys : List (List ℕ) → Data → Type 0
HasKeys keys d = (ms : Members) × (d ≡ object ms) × ((k : List ℕ) → (IsSome (get_member k ms) ↔ Contains keys k))

-- at the key of an object stands what is R to x
abbrev pub At : {A : Type 0} → List ℕ → (Data → A → Type 0) → Data → A → Type 0
At key R d x = (stands : Data) × (get key d ≡ Some stands) × R stands x

-- the items of a list are R to those of another, one by one
abbrev pub AreItems : {A : Type 0} → (Data → A → Type 0) → Items → List A → Type 0
AreItems R no_items [] = Unit {0}
AreItems R (item d ds) (x ∷ xs) = R d x × AreItems R ds xs
AreItems R no_items (x ∷ xs) = ⊥
AreItems R (item d ds) [] = ⊥

abbrev pub IsListOf : {A : Type 0} → (Data → A → Type 0) → Data → List A → Type 0
IsListOf R d xs = (ds : Items) × (d ≡ array ds) × AreItems R ds xs

-- a list of at most so many items
abbrev pub IsShortListOf : {A : Type 0} → ℕ → (Data → A → Type 0) → Data → List A → Type 0
IsShortListOf most R d xs = IsListOf R d xs × (length xs ≤ most)

-- `null`, and no value; or what is R to the value
abbrev pub IsOptional : {A : Type 0} → (Data → A → Type 0) → Data → Option A → Type 0
IsOptional R d None = d ≡ null
IsOptional R d (Some x) = (d ≢ null) × R d x

-- a number, written without sign, fraction and exponent
abbrev pub IsNumber : Data → ℕ → Type 0
IsNumber d n = d ≡ number (unsigned n)

abbrev pub IsNumberWithin : ℕ → ℕ → Data → ℕ → Type 0
IsNumberWithin least most d n = IsNumber d n × (least ≤ n) × (n ≤ most)

-- `true` or `false`
abbrev pub IsTruth : Data → Bool → Type 0
IsTruth d b = d ≡ boolean b

-- the text of a name
abbrev pub IsName : Data → List ℕ → Type 0
IsName d s = (d ≡ string s) × IsTrue (is_name s)

-- a text
abbrev pub IsString : Data → List ℕ → Type 0
IsString d s = d ≡ string s

-- this text
abbrev pub IsText : List ℕ → Data → Type 0
IsText s d = d ≡ string s

-- the hex text of bytes
abbrev pub IsHex : Data → List ℕ → Type 0
IsHex d bytes = (s : List ℕ) × (d ≡ string s) × (decode_of s ≡ Ok bytes)

-- the hex text of at most 8 bytes
abbrev pub IsAddress : Data → List ℕ → Type 0
IsAddress d bytes = IsHex d bytes × (length bytes ≤ 8)

-- the first index of a name in a list
pub record IsFirstOf (names : List (List ℕ)) (name : List ℕ) (index : ℕ) : Type 0 where
  pub stands : slice_get names index ≡ Some name
  pub first : (k : ℕ) → k < index → slice_get names k ≢ Some name

-- the text of a name that stands in a list, at this index first
abbrev pub IsIndexOfName : List (List ℕ) → Data → ℕ → Type 0
IsIndexOfName names d index = (name : List ℕ) × IsName d name × IsFirstOf names name index
