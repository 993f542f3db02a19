-- When packets join to a message.
use Rattle.std.specs.Prelude.{◌≡◌, ℕ, ◌+◌, ◌%◌, ◌<◌, ◌≤◌, List, length, slice_get, flat_map, ◌==◌, Some, false}
use Rattle.mctp_transport.specs.PacketValues.{PacketValue, key_of}

-- all payloads, one after another
abbrev pub payloads_of : List PacketValue → List ℕ
payloads_of ps = flat_map (λ p. p.payload) ps

-- each packet has the property, at its index in the list
abbrev pub EachPacket : List PacketValue → (ℕ → PacketValue → Type 0) → Type 0
EachPacket ps P = (i : ℕ) (p : PacketValue) → slice_get ps i ≡ Some p → P i p

-- each packet and the one after it are so related
abbrev pub EachNext : List PacketValue → (PacketValue → PacketValue → Type 0) → Type 0
EachNext ps R = (i : ℕ) (p q : PacketValue) → slice_get ps i ≡ Some p → slice_get ps (i + 1) ≡ Some q → R p q

-- the first packet and each packet of the list, at its index, are so related
abbrev pub FirstAndEach : List PacketValue → (ℕ → PacketValue → PacketValue → Type 0) → Type 0
FirstAndEach ps R = (i : ℕ) (p q : PacketValue) → slice_get ps 0 ≡ Some p → slice_get ps i ≡ Some q → R i p q

-- the first packet has the property
abbrev pub AtFirst : List PacketValue → (PacketValue → Type 0) → Type 0
AtFirst ps P = (p : PacketValue) → slice_get ps 0 ≡ Some p → P p

-- the last packet has the property
abbrev pub AtLast : List PacketValue → (PacketValue → Type 0) → Type 0
AtLast ps P = (i : ℕ) (p : PacketValue) → i + 1 ≡ length ps → slice_get ps i ≡ Some p → P p

-- The packets join to the message: they are of one key, SOM is on the first alone and EOM on the last
-- alone, each number is one more than the one before, each payload but the last is as long as the
-- first's and the last is no longer, and the payloads one after another are the message.
pub record Joined (ps : List PacketValue) (message : List ℕ) : Type 0 where
  pub some : 0 < length ps
  pub one_key : FirstAndEach ps (λ i p q. key_of q ≡ key_of p)
  pub start : EachPacket ps (λ i p. p.som ≡ (i == 0))
  pub finish : EachPacket ps (λ i p. p.eom ≡ (i + 1 == length ps))
  pub numbers : EachNext ps (λ p q. q.number ≡ (p.number + 1) % 4)
  pub middle : FirstAndEach ps (λ i p q. i + 1 < length ps → length q.payload ≡ length p.payload)
  pub last : FirstAndEach ps (λ i p q. length q.payload ≤ length p.payload)
  pub whole : message ≡ payloads_of ps

-- the packet's number is one more, modulo 4, than that of the last of the packets before it
abbrev pub NumberFollows : List PacketValue → PacketValue → Type 0
NumberFollows ps p = AtLast ps (λ q. p.number ≡ (q.number + 1) % 4)

-- a middle packet's payload is as long as the first's, an end packet's is no longer
abbrev pub LengthFits : List PacketValue → PacketValue → Type 0
LengthFits ps p =
    AtFirst ps (λ q. (p.eom ≡ false → length p.payload ≡ length q.payload) × (length p.payload ≤ length q.payload))
