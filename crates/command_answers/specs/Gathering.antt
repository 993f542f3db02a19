-- What an output has taken while lines wait to be written.
use Rattle.std.{specs.Prelude.{◌≡◌, ℕ, List, ◌++◌, Option}, specs.Io.KnownBytes.{Appends}}

-- the output was given the text but for its end, which waits
abbrev pub AppendsAllBut : List ℕ → Option (List ℕ) → Option (List ℕ) → List ℕ → Type 0
AppendsAllBut waiting old new text = (given : List ℕ) × Appends old new given × (text ≡ given ++ waiting)
