-- What an assembler answers to a packet, by what it was given before.
use Rattle.std.specs.Prelude.{◌≡◌, ◌⊎◌, ℕ, ◌+◌, ◌<◌, ◌≤◌, List, length, true, false}
use Rattle.mctp_transport.{specs.PacketValues.{PacketValue, key_of}, specs.Messages.{payloads_of, NumberFollows, LengthFits}, specs.Histories.{History, Arrived, after, last_of, ArePackets, IsOpen, IsOtherOpen, AsManyAs, Comes}, specs.declared.drop_cause.DropCause.{DropCause}}
use Rattle.mctp_transport.specs.declared.drop_cause.DropCause.TheVariants as drop_cause

-- what the assembler answers, without where it lies in memory
pub data Answer : Type 0 where
  Whole : List ℕ → Answer
  Held : Answer
  Dropped : DropCause → Answer

-- the packet starts nothing, its key is open, and the packets since the key's last start have the property
abbrev pub ContinuesMessage : ℕ → ℕ → History → PacketValue → (List PacketValue → Type 0) → Type 0
ContinuesMessage slots limit history p P = (p.som ≡ false) × IsOpen slots limit history (key_of p)
    × ((ps : List PacketValue) × ArePackets (last_of history (key_of p)) ps × P ps)

-- the packet is dropped after the history for this cause
abbrev pub IsDropped : ℕ → ℕ → History → PacketValue → DropCause → Type 0
IsDropped slots limit history p drop_cause.NotOpen = (p.som ≡ false) × ¬ IsOpen slots limit history (key_of p)
IsDropped slots limit history p drop_cause.Number = ContinuesMessage slots limit history p (λ ps. ¬ NumberFollows ps p)
IsDropped slots limit history p drop_cause.Length =
    ContinuesMessage slots limit history p (λ ps. NumberFollows ps p × ¬ LengthFits ps p)
IsDropped slots limit history p drop_cause.Limit = ((p.som ≡ true) × (limit < length p.payload))
    ⊎ ContinuesMessage slots limit history p
    (λ ps. NumberFollows ps p × LengthFits ps p × (limit < length (payloads_of ps) + length p.payload))
IsDropped slots limit history p drop_cause.Full = (p.som ≡ true) × (p.eom ≡ false) × (length p.payload ≤ limit)
    × AsManyAs slots (IsOtherOpen slots limit history (key_of p))

-- what is heard of a packet that comes after the history
abbrev pub Hears : ℕ → ℕ → History → PacketValue → Answer → Type 0
Hears slots limit history p (Whole message) = Comes slots limit (after history (Arrived p)) message
Hears slots limit history p Held = IsOpen slots limit (after history (Arrived p)) (key_of p)
Hears slots limit history p (Dropped cause) = IsDropped slots limit history p cause

-- this is heard, and nothing else
pub record HearsOnly (slots limit : ℕ) (history : History) (p : PacketValue) (answer : Answer) : Type 0 where
  pub hears : Hears slots limit history p answer
  pub only : (other : Answer) → Hears slots limit history p other → other ≡ answer
