-- What the bytes of a text stand for.
use Rattle.std.{specs.Prelude.{ℕ, ◌≡◌, ◌≤◌, List, length, Option, Some, None, option_and_then, IsUtf8}, specs.Io.KnownBytes.{Consumes, IsAtEnd}}
use Rattle.json.{specs.Json.{Json, value, if_last}, specs.Lex.{tokens}, specs.Strict.{HasUniqueKeys}}
use Rattle.serde_json.{specs.Data.{Data}, specs.Read.{read, max_depth}}

-- the bytes are JSON of this value
abbrev pub IsJson : List ℕ → Data → Type 0
IsJson text d = IsUtf8 text × (read text ≡ Some d)

-- the bytes are JSON of this tree, in which an object has each member that is written
abbrev pub IsTree : List ℕ → Json → Type 0
IsTree text j = option_and_then (λ p. if_last p.0 p.1) (value max_depth (tokens text)) ≡ Some j

-- no object of the text has a key twice
abbrev pub HasSingleKeys : List ℕ → Type 0
HasSingleKeys text = (j : Json) × IsTree text j × HasUniqueKeys j

-- some object of the text has a key twice
abbrev pub HasDoubledKey : List ℕ → Type 0
HasDoubledKey text = (j : Json) × IsTree text j × ¬ HasUniqueKeys j

-- the bytes are JSON, no object of it has a key twice, and its value is R to x
abbrev pub IsJsonTextOf : {A : Type 0} → (Data → A → Type 0) → List ℕ → A → Type 0
IsJsonTextOf R text x = (d : Data) × IsJson text d × HasSingleKeys text × R d x

-- the bytes are no JSON
abbrev pub IsNoJson : List ℕ → Type 0
IsNoJson text = IsUtf8 text → read text ≡ None

-- a source gave bytes to its end, at most so many, of which P holds
abbrev pub Gave : ℕ → Option (List ℕ) → Option (List ℕ) → (List ℕ → Type 0) → Type 0
Gave most old new P = (bytes : List ℕ) × Consumes old new bytes × IsAtEnd new × (length bytes ≤ most) × P bytes
