-- How a board writes endpoint IDs.
use Rattle.std.{specs.Prelude.{◌⊎◌, ℕ, ◌+◌, ◌-◌, nat_eq, if◌then◌else◌, List, ◌++◌, codes, Option}, specs.Fmt.{decimal}}
use Rattle.toml.specs.Data.{Data}
use Rattle.board_values.specs.Said.{SaysText}

-- endpoint IDs by their ends: the first, a dash and the last
abbrev pub ends_text : ℕ → ℕ → List ℕ
ends_text first size = decimal first ++ (codes "-" ++ decimal ((first + size) - 1))

-- endpoint IDs, one after another: the first and, where there are several, a dash and the last
abbrev pub eids_text : ℕ → ℕ → List ℕ
eids_text first size = if nat_eq size 1 then decimal first else ends_text first size

-- what stands there gives these endpoint IDs of a pool; one alone by its number, or by its ends
abbrev pub SaysRun : Option Data → ℕ → ℕ → Type 0
SaysRun said first size = SaysText said (eids_text first size) ⊎ SaysText said (ends_text first size)
