-- What lines tell, counted.
use Rattle.std.{specs.Prelude.{ℕ, Bool, List, length}, specs.List.{filter, list_any}}
use Rattle.audited_captures.specs.Lines.{LineValue, differs, compares}

abbrev pub difference_count : List LineValue → ℕ
difference_count lines = length (filter differs lines)

-- something was laid beside the plan
abbrev pub has_compared : List LineValue → Bool
has_compared lines = list_any compares lines
