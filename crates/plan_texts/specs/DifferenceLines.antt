-- The first line in which two texts differ.
use Rattle.std.{specs.Prelude.{◌≡◌, ◌≢◌, ℕ, ◌+◌, List, ◌++◌, Option, Some, None, take, slice_get, codes}, specs.Fmt.{decimal}, specs.Str.Lines.{lines}}

-- The lines are the same before this index, and differ there: there is another line, or in one of them there is none.
pub record DifferFirstAt (wanted came : List (List ℕ)) (index : ℕ) : Type 0 where
  pub before : take index wanted ≡ take index came
  pub there : slice_get wanted index ≢ slice_get came index

-- what was expected
abbrev pub expected_text : Option (List ℕ) → List ℕ
expected_text (Some line) = codes "expected: " ++ (line ++ codes "\n")
expected_text None = codes "expected no more lines\n"

-- what came
abbrev pub came_text : Option (List ℕ) → List ℕ
came_text (Some line) = codes "came: " ++ (line ++ codes "\n")
came_text None = codes "no more lines came\n"

-- what is told of the line of this index, numbered from 1
abbrev pub difference_text : ℕ → Option (List ℕ) → Option (List ℕ) → List ℕ
difference_text index wanted came =
    codes "line " ++ (decimal (index + 1) ++ (codes " differs\n" ++ (expected_text wanted ++ came_text came)))

-- the text tells the first line in which the lines differ
abbrev pub IsDifferenceText : (wanted came : List (List ℕ)) → List ℕ → Type 0
IsDifferenceText wanted came text = (index : ℕ) × DifferFirstAt wanted came index
    × (text ≡ difference_text index (slice_get wanted index) (slice_get came index))
