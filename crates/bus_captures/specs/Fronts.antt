-- What stands at the front of a text in hex.
use Rattle.std.specs.Prelude.{◌≡◌, ◌<◌, ℕ, List, [], ◌∷◌, length}
use Rattle.bus_captures.{specs.declared.hex_text.Front.{Front}, specs.Hex.{IsHex}}
use Rattle.bus_captures.specs.declared.hex_text.Front.TheVariants as front

-- the readings of the text are those of what is left
pub record IsPassed (text left : List ℕ) : Type 0 where
  pub shorter : length left < length text
  pub there : (bytes : List ℕ) → IsHex text bytes → IsHex left bytes
  pub back : (bytes : List ℕ) → IsHex left bytes → IsHex text bytes

-- the readings of the text are those of what is left, with the byte before them
pub record IsSplit (text : List ℕ) (byte : ℕ) (left : List ℕ) : Type 0 where
  pub shorter : length left < length text
  pub there : (bytes : List ℕ) → IsHex text bytes → (more : List ℕ) × (bytes ≡ byte ∷ more) × IsHex left more
  pub back : (more : List ℕ) → IsHex left more → IsHex text (byte ∷ more)

abbrev pub IsFront : List ℕ → Front → Type 0
IsFront text front.End = text ≡ []
IsFront text (front.Passed left) = IsPassed text left.now
IsFront text (front.Byte byte left) = IsSplit text byte left.now
IsFront text front.Other = (bytes : List ℕ) → ¬ IsHex text bytes
