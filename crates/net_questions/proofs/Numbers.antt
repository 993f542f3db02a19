-- The number of at most four bytes.
use Rattle.std.proofs.Common.{◌≡◌, ℕ, ◌≤◌, List, [], ◌∷◌, length, arith}
use Rattle.net_questions.specs.Lint.{number_of}
use Rattle.record_fields.specs.Named.{bits_of}

pub number_by_places : (bytes : List ℕ) → length bytes ≤ 4
    → bits_of bytes ≡ number_of bytes
number_by_places [] few = omega arith
number_by_places (a ∷ []) few = omega arith
number_by_places (a ∷ b ∷ []) few = omega arith
number_by_places (a ∷ b ∷ c ∷ []) few = omega arith
number_by_places (a ∷ b ∷ c ∷ d ∷ []) few = omega arith
number_by_places (a ∷ b ∷ c ∷ d ∷ e ∷ rest) few = absurd (omega arith)
