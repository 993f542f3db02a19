-- Files that hold their bytes, one after another.
use Rattle.std.proofs.Common.{ℕ, List, [], ◌∷◌, ◌++◌, string_bytes, subst, inl, inr}
use Rattle.mctp_transport.proofs.FirstIndexes.{get_cases}
use Rattle.board.specs.declared.board.RecordFile.{RecordFile}
use Rattle.verify_commands.specs.Boards.{AreHeld}

-- one file more
pub held_more : (Holds : List ℕ → List ℕ → Type 0) (files : List RecordFile) (file : RecordFile) → AreHeld Holds files
    → Holds (string_bytes file.name) file.bytes.items → AreHeld Holds (files ++ file ∷ [])
held_more Holds files file before here i found at = elim (get_cases files file i found at) [
  | inl old ↦ before i found old.0
  | inr new ↦ subst (λ f. Holds (string_bytes f.name) f.bytes.items) new.1 here
]
