-- The lines of an audit.
use Rattle.std.specs.Prelude.{ℕ, Bool, true, false, List, [], ◌∷◌, string_bytes}
use Rattle.audited_captures.{specs.declared.lines.Finding.{Finding}, specs.declared.lines.Finding.TheVariants.{Silent, AsPlanned, Differs}, specs.declared.lines.Line.{Line}}

-- the text of a line without its end, and what it says of what was captured beside what is planned
pub record LineValue : Type 0 where
  pub text : List ℕ
  pub finding : Finding

abbrev pub line_value : Line → LineValue
line_value l = record { text = string_bytes l.text; finding = l.finding }

-- a difference between what was said and the plan
abbrev pub difference : List ℕ → LineValue
difference text = record { text = text; finding = Differs }

-- that something is as planned
abbrev pub note : List ℕ → LineValue
note text = record { text = text; finding = AsPlanned }

-- that nothing was captured
abbrev pub silence : List ℕ → LineValue
silence text = record { text = text; finding = Silent }

abbrev pub is_difference : Finding → Bool
is_difference Silent = false
is_difference AsPlanned = false
is_difference Differs = true

abbrev pub is_comparison : Finding → Bool
is_comparison Silent = false
is_comparison AsPlanned = true
is_comparison Differs = true

-- the line tells a difference
abbrev pub differs : LineValue → Bool
differs l = is_difference l.finding

-- the line tells of something that was laid beside the plan
abbrev pub compares : LineValue → Bool
compares l = is_comparison l.finding

-- the differences, or where there are none the line that says so
abbrev pub differences_or : LineValue → List LineValue → List LineValue
differences_or otherwise [] = otherwise ∷ []
differences_or otherwise (l ∷ ls) = l ∷ ls
