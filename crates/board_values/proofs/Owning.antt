-- Owners without end.
use Rattle.std.{proofs.Common.{◌≡◌, ℕ, zero, suc, List, Bool, true, Some, refl}, specs.Prelude.{slice_get}}
use Rattle.toml.specs.Data.{Data}
use Rattle.board_values.specs.Owners.{IsOwnerAbove, AreOwnersFlagged}

-- a node with a flag has an owner, which has a flag too, and so on
pub without_end : (board : Data) (flags : List Bool) → AreOwnersFlagged board flags → (n : ℕ) → slice_get flags n ≡ Some true
    → (k : ℕ) → (m : ℕ) × IsOwnerAbove board k n m
without_end board flags are n at zero = (n, refl)
without_end board flags are n at (suc k) =
    let above = are n at in
    let further = without_end board flags are above.0 above.2 k in
    (further.0, (above.0, above.1, further.1))
