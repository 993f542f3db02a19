-- Facts, listed by words.
use Rattle.std.{specs.Prelude.{◌≡◌, ℕ, List, [], String, Vec}, specs.Option.{option_map_or}, specs.List.{filter}, specs.BTreeMap.{BTreeMap, get_by_text}, specs.Str.{bytes_eq}}
use Rattle.plan_differences.{specs.declared.fact.Fact.{Fact}, specs.Facts.{FactValue, fact_value}}

-- the facts that are listed for the words
abbrev pub listed : {Y Z : Type 0} → BTreeMap (String Y) (Vec Fact Z) → List ℕ → List Fact
listed index words = option_map_or (λ p. p.items) (get_by_text index words) []

-- those of the facts that have these words
abbrev pub of_words : (FactValue → List ℕ) → List Fact → List ℕ → List Fact
of_words text facts words = filter (λ f. bytes_eq words (text (fact_value f))) facts

-- for all words just the facts that have them are listed
abbrev pub IsIndexBy : {Y Z : Type 0} → (FactValue → List ℕ) → List Fact → BTreeMap (String Y) (Vec Fact Z) → Type 0
IsIndexBy text facts index = (words : List ℕ) → listed index words ≡ of_words text facts words
