-- Lines that a source gives, one at a time.
use Rattle.std.{specs.Prelude.{◌≡◌, ◌≢◌, ℕ, Bool, true, false, List, [], ◌∷◌, ◌++◌, All, length, Option}, specs.Io.KnownBytes.{Consumes, IsAtEnd}}
use Rattle.net_plan.{specs.declared.stream.TextFault.{TextFault}, specs.declared.stream.TextFault.TheVariants.{TooLong}}

-- no line end is among the bytes
abbrev pub HasNoEnd : List ℕ → Type 0
HasNoEnd line = All (λ b. b ≢ 10) line

-- the line, and behind it a line end; or the line, behind which nothing is left
abbrev pub IsTaken : (last : Bool) → Option (List ℕ) → Option (List ℕ) → List ℕ → Type 0
IsTaken true old new line = Consumes old new line × IsAtEnd new
IsTaken false old new line = Consumes old new (line ++ 10 ∷ [])

-- a source gave this line
abbrev pub GaveLine : (last : Bool) → Option (List ℕ) → Option (List ℕ) → List ℕ → Type 0
GaveLine last old new line = HasNoEnd line × IsTaken last old new line

-- a source gave the beginning of a line, and no more; a line is too long that has 65,536 bytes before its end
abbrev pub GavePart : TextFault → Option (List ℕ) → Option (List ℕ) → Type 0
GavePart why old new =
    (line : List ℕ) × HasNoEnd line × Consumes old new line × (why ≡ TooLong → length line ≡ 65536)
