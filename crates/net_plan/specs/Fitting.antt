-- Which values are of a grammar, in the words of the relations that say what a value stands for.
use Rattle.std.{specs.Prelude.{ℕ, ◌≡◌, ◌≤◌, ◌⊎◌, List, Bool, true, false, Option, Some, None, Ok, Contains}, specs.Str.{bytes_eq}}
use Rattle.serde_json.{specs.Data.{Data, null, string, array, Items, no_items, item}, specs.Find.{get}}
use Rattle.net_plan.{specs.Json.{items_count}, specs.JsonWords.{HasKeys, IsNumberWithin, IsTruth, IsName, IsHex, IsAddress}, specs.Names.{text_of}, specs.PlanText.{IsKindOf}, specs.Finding.{names_of, range_end}, specs.Grammar.{Grammar, plain, one_of, a_list, an_optional, an_object, a_choice, Fields, no_fields, field, keys_of, Known}, specs.declared.shape.Named.{Named}, specs.declared.shape.Rule.{Rule}, specs.declared.shape.Word.{Word}}
use Rattle.plan_values.specs.declared.nodes.Kind.{Kind}
use Rattle.net_plan.specs.declared.shape.Rule.TheVariants as rule
use Rattle.net_plan.specs.declared.shape.Word.TheVariants as word

-- the name is one of those that are known, where some are
abbrev pub IsKnown : Option Known → Named → List ℕ → Type 0
IsKnown None names s = Unit {0}
IsKnown (Some k) names s = Contains (names_of names k) s

-- the value is such a word
abbrev pub IsWord : Option Known → Word → Data → Type 0
IsWord known (word.Number least most) d = (n : ℕ) × IsNumberWithin least most d n
IsWord known word.Name d = (s : List ℕ) × IsName d s
IsWord known (word.Named names) d = (s : List ℕ) × IsName d s × IsKnown known names s
IsWord known word.Truth d = (b : Bool) × IsTruth d b
IsWord known word.Kind d = (k : Kind) × IsKindOf d k
IsWord known word.Hex d = (bytes : List ℕ) × IsHex d bytes
IsWord known word.Address d = (bytes : List ℕ) × IsAddress d bytes

-- the text of one of these words
abbrev pub IsOneOf : List (List ℕ) → Data → Type 0
IsOneOf words d = (s : List ℕ) × (d ≡ string s) × Contains words s

-- P holds of each item
abbrev pub EachIs : (Data → Type 0) → Items → Type 0
EachIs P no_items = Unit {0}
EachIs P (item d ds) = P d × EachIs P ds

-- at most so many, where there is a bound
abbrev pub IsWithin : Option ℕ → ℕ → Type 0
IsWithin None n = Unit {0}
IsWithin (Some most) n = n ≤ most

-- a list of at most so many items, of each of which P holds
abbrev pub IsListThat : Option ℕ → (Data → Type 0) → Data → Type 0
IsListThat most P d = (ds : Items) × (d ≡ array ds) × IsWithin most (items_count ds) × EachIs P ds

-- P holds of what stands at the key
abbrev pub HasAt : List ℕ → (Data → Type 0) → Data → Type 0
HasAt key P d = (stands : Data) × (get key d ≡ Some stands) × P stands

-- the rule holds of an object: a range with its numbers in their bounds ends at 255 or before
abbrev pub Passes : Rule → Data → Type 0
Passes rule.None d = Unit {0}
Passes rule.EndsInTime d = (end : ℕ) → range_end d ≡ Ok end → end ≤ 256

-- the first where that is true, else the second
abbrev pub Either : Bool → Type 0 → Type 0 → Type 0
Either true P Q = P
Either false P Q = Q

-- the value is one of the grammar
abbrev mutual
  pub Fits : Option Known → Grammar → Data → Type 0
  Fits known (plain w) d = IsWord known w d
  Fits known (one_of words) d = IsOneOf words d
  Fits known (a_list most g) d = IsListThat most (λ e. Fits known g e) d
  Fits known (an_optional g) d = (d ≡ null) ⊎ Fits known g d
  Fits known (an_object rule fs) d = HasKeys (keys_of fs) d × FieldsFit known fs d × Passes rule d
  Fits known (a_choice key g cs) d = HasAt key (λ e. Fits known g e × ChoiceFits known cs (text_of e) d) d

  -- at each key a value of its grammar stands
  pub FieldsFit : Option Known → Fields → Data → Type 0
  FieldsFit known no_fields d = Unit {0}
  FieldsFit known (field key g fs) d = HasAt key (λ e. Fits known g e) d × FieldsFit known fs d

  -- what the word asks of the object, by the first choice that has it
  pub ChoiceFits : Option Known → Fields → List ℕ → Data → Type 0
  ChoiceFits known no_fields word d = Unit {0}
  ChoiceFits known (field w g cs) word d = Either (bytes_eq word w) (Fits known g d) (ChoiceFits known cs word d)
