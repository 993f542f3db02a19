-- Where in a text a value stands.
use Rattle.std.specs.Prelude.{◌≡◌, ◌<◌, ◌==◌, ◌||◌, ℕ, Bool, false, List, [], ◌∷◌, length, drop, get_or, Some, option_and_then, IsUtf8}
use Rattle.json.{specs.Find.{BeginsWith}, specs.Json.{Json, Members, object}, specs.Lex.{tokens}, specs.Strict.{keys}, specs.Token.{Token}}
use Rattle.net_plan.{specs.Texts.{IsTree}, specs.Trees.{data_of}, specs.Finding.{Step}}
use Rattle.net_pointers.{specs.Doubles.{part_at}, specs.PartTokens.{from_key, from_path}, specs.Paths.{path_of}, specs.Pointers.{value_at}}

-- the bytes are UTF-8, and JSON of this tree
abbrev pub IsTextOf : List ℕ → Json → Type 0
IsTextOf text j = IsUtf8 text × IsTree text j

-- white space, a comma or a colon
abbrev pub is_mark : ℕ → Bool
is_mark b = b == 32 || b == 9 || b == 10 || b == 13 || b == 44 || b == 58

-- From the offset on the text has just these tokens, up to its end, and no white space, comma or colon stands before
-- the first of them, but a character of ASCII.
abbrev pub AreTokensFrom : List ℕ → ℕ → List Token → Type 0
AreTokensFrom text offset ts = (offset < length text) × (is_mark (get_or text offset 0) ≡ false)
    × (get_or text offset 0 < 128) × (ts ≡ tokens (drop offset text))

-- the part to which a path of indices leads stands at the offset
abbrev pub PartStandsAt : List ℕ → List ℕ → ℕ → Type 0
PartStandsAt text path offset =
    (ts : List Token) × (from_path path (tokens text) ≡ Some ts) × AreTokensFrom text offset ts

-- The pointer leads along a path of indices in the tree of the text, what stands there begins at the offset, and it is
-- the value to which the pointer leads.
pub record LeadsTo (text : List ℕ) (pointer : List Step) (offset : ℕ) : Type 0 where
  pub tree : Json
  pub whole : IsTree text tree
  pub path : List ℕ
  pub along : path_of pointer tree ≡ Some path
  pub stands : PartStandsAt text path offset
  pub part : Json
  pub leads : value_at pointer (data_of tree) ≡ Some (data_of part)
  pub begins : BeginsWith (tokens (drop offset text)) part

-- the key of a member of the object to which a path of indices leads stands at the offset
abbrev pub KeyStandsAt : List ℕ → List ℕ → ℕ → ℕ → Type 0
KeyStandsAt text path member offset =
    (ts : List Token) × (option_and_then (from_key member) (from_path path (tokens text)) ≡ Some ts)
    × AreTokensFrom text offset ts

-- That key stands at the offset. So where the path leads in the tree of the text to an object of so many members, it is
-- the key of this member.
pub record LeadsToKey (text path : List ℕ) (m offset : ℕ) : Type 0 where
  pub stands : KeyStandsAt text path m offset
  pub names : (tree : Json) (ms : Members) → IsTree text tree → part_at path tree ≡ Some (object ms)
      → m < length (keys ms)
      → (rest : List Token) × (tokens (drop offset text) ≡ Token.key (get_or (keys ms) m []) ∷ rest)
