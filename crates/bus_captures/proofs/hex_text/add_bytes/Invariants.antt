use Rattle.std.proofs.Common.{◌≡◌, ℕ, List, ◌++◌, length}
use Rattle.bus_captures.specs.Hex.{IsHex}
use Rattle.bus_captures.proofs.hex_text.add_bytes.Given as goal

-- the readings of the text are the bytes so far with the readings of what is left
abbrev pub invariant-loop-rest : goal.invariant-loop-rest
invariant-loop-rest l =
    ((more : List ℕ) → IsHex l.left more → IsHex l.text (l.bytes.items ++ more))
    × ((all : List ℕ) → IsHex l.text all → (more : List ℕ) × (all ≡ l.bytes.items ++ more) × IsHex l.left more)

abbrev pub decreases-loop-rest : goal.decreases-loop-rest
decreases-loop-rest l = length l.left
