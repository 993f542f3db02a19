-- Bytes in hex, as a line has them.
use Rattle.std.specs.Prelude.{◌≡◌, ◌⊎◌, ℕ, ◌+◌, ◌*◌, ◌<◌, ◌≤◌, Bool, true, false, List, [], ◌∷◌}
use Rattle.bus_captures.specs.Sorts.{is_space}

-- a digit of either case, and its value
abbrev pub IsDigit : ℕ → ℕ → Type 0
IsDigit b value =
    ((value < 10) × (b ≡ 48 + value))
    ⊎ (((10 ≤ value) × (value < 16) × (b ≡ 55 + value)) ⊎ ((10 ≤ value) × (value < 16) × (b ≡ 87 + value)))

-- two digits are the byte
abbrev pub IsByte : ℕ → ℕ → ℕ → Type 0
IsByte high low byte = (h : ℕ) × (l : ℕ) × IsDigit high h × IsDigit low l × (byte ≡ 16 * h + l)

-- The text is the bytes: two digits a byte. Between bytes there may be spaces, and `0x` before a byte.
abbrev pub IsHex : List ℕ → List ℕ → Type 0
IsHex [] bytes = bytes ≡ []
IsHex (b ∷ []) bytes = (is_space b ≡ true) × (bytes ≡ [])
IsHex (b ∷ c ∷ text) bytes =
    ((is_space b ≡ true) × IsHex (c ∷ text) bytes)
    ⊎ (((b ≡ 48) × (c ≡ 120) × IsHex text bytes)
    ⊎ ((byte : ℕ) × (more : List ℕ) × IsByte b c byte × (bytes ≡ byte ∷ more) × IsHex text more))

-- the text is these bytes and no others
abbrev pub IsOnlyHex : List ℕ → List ℕ → Type 0
IsOnlyHex text bytes = IsHex text bytes × ((others : List ℕ) → IsHex text others → others ≡ bytes)

-- the text is the bytes, where it is hex
abbrev pub IsHexOrNot : List ℕ → Bool → List ℕ → Type 0
IsHexOrNot text true bytes = IsOnlyHex text bytes
IsHexOrNot text false bytes = (others : List ℕ) → ¬ IsHex text others
