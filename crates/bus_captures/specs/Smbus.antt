-- Packets in frames of SMBus and I2C (DSP0237).
use Rattle.std.specs.Prelude.{◌≡◌, ◌≢◌, ◌⊎◌, ℕ, ◌+◌, ◌%◌, List, [], ◌∷◌, ◌++◌, length}
use Rattle.bus_captures.specs.declared.capture.Kind.{Kind}
use Rattle.pdr_repository.specs.Crc.{IsCrc}
use Rattle.bus_captures.specs.declared.capture.Kind.TheVariants as kind
use Rattle.bus_captures.specs.declared.capture.Unread.TheVariants as cause

-- the receiver's address, the sender's address, the packet, and the check byte (PEC)
pub record SmbusFrame : Type 0 where
  pub to : ℕ
  pub from : ℕ
  pub packet : List ℕ
  pub pec : ℕ

-- Before the check byte stand the receiver's address, the command code of MCTP (15), how many bytes follow, the
-- sender's address, and the packet.
abbrev pub covered : SmbusFrame → List ℕ
covered f = f.to ∷ 15 ∷ (1 + length f.packet) ∷ f.from ∷ f.packet

-- The bytes are the frame. It is written to the receiver, so that its address is even, and no packet begins so: the
-- first byte of each is odd.
abbrev pub IsSmbusFrame : List ℕ → SmbusFrame → Type 0
IsSmbusFrame bytes f = (f.to % 2 ≡ 0) × (bytes ≡ covered f ++ f.pec ∷ [])

abbrev pub IsNoFrame : List ℕ → Type 0
IsNoFrame bytes = (f : SmbusFrame) → ¬ IsSmbusFrame bytes f

-- what is read of a frame: its packet, where the check byte is that of all bytes before it
abbrev pub IsOfFrame : List ℕ → SmbusFrame → Kind → List ℕ → Type 0
IsOfFrame bytes f what read = (crc : ℕ) × IsCrc (covered f) crc
    × (((f.pec ≡ crc) × (what ≡ kind.Packet) × (read ≡ f.packet))
    ⊎ ((f.pec ≢ crc) × (what ≡ kind.Unread (cause.Pec f.pec crc)) × (read ≡ bytes)))

abbrev pub IsFramed : List ℕ → Kind → List ℕ → Type 0
IsFramed bytes what read = (f : SmbusFrame) × IsSmbusFrame bytes f × IsOfFrame bytes f what read

-- what is read of bytes that are a frame, or a packet as it is
abbrev pub IsUnframed : List ℕ → Kind → List ℕ → Type 0
IsUnframed bytes what read =
    IsFramed bytes what read ⊎ (IsNoFrame bytes × (what ≡ kind.Packet) × (read ≡ bytes))

-- what is read of bytes that went over a bus with other frames too
abbrev pub IsFramedOnly : List ℕ → Kind → List ℕ → Type 0
IsFramedOnly bytes what read =
    IsFramed bytes what read ⊎ (IsNoFrame bytes × (what ≡ kind.Unread cause.NoFrame) × (read ≡ bytes))
