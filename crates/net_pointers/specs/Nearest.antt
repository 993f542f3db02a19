-- The name that is nearest to another.
use Rattle.std.{specs.Prelude.{◌<◌, ◌≤◌, ◌/◌, ℕ, nat_eq, List, map, length, get_or, All, Option, Some, None}, specs.Char.{to_ascii_lowercase}, specs.Str.{chars}}
use Rattle.strsim.specs.Edits.{levenshtein_row}

-- a name in small letters
abbrev pub small : List ℕ → List ℕ
small name = map to_ascii_lowercase name

-- how many characters are put in, left out or changed to come from one name to the other, whatever their case
abbrev pub edits : List ℕ → List ℕ → ℕ
edits a b = levenshtein_row nat_eq (chars (small a)) (chars (small b)) (length (chars (small b)))

-- at most so many edits make a name close: a third of its length
abbrev pub close : List ℕ → ℕ
close name = length name / 3

-- how many edits lead to each of these names
abbrev pub edits_to : List (List ℕ) → List ℕ → List ℕ
edits_to names name = map (edits name) names

-- the index of a name that is close, none is nearer, and each one before it is farther; or no name is close
abbrev pub IsNearest : List (List ℕ) → List ℕ → Option ℕ → Type 0
IsNearest names name None = All (λ count. close name < count) (edits_to names name)
IsNearest names name (Some i) = (i < length (edits_to names name)) × (get_or (edits_to names name) i 0 ≤ close name)
    × All (λ count. get_or (edits_to names name) i 0 ≤ count) (edits_to names name)
    × ((k : ℕ) → k < i → get_or (edits_to names name) i 0 < get_or (edits_to names name) k 0)
