-- What the packets of a message are.
use Rattle.std.{specs.Prelude.{◌≡◌, ℕ, ◌+◌, ◌%◌, ◌<◌, ◌≤◌, ◌==◌, List, length, map, slice_get, Some}, specs.List.{concat}}
use Rattle.mctp_transport.{specs.PacketValues.{PacketValue, KeyValue, key_of}, specs.Messages.{EachPacket}}

-- The message is cut into these payloads: one after another they are the message, each but the last is as
-- long as the transmission unit, and the last has at least one byte and at most the unit.
pub record IsCut (unit : ℕ) (message : List ℕ) (payloads : List (List ℕ)) : Type 0 where
  pub whole : message ≡ concat payloads
  pub full : (i : ℕ) (p : List ℕ) → slice_get payloads i ≡ Some p → i + 1 < length payloads → length p ≡ unit
  pub last : (i : ℕ) (p : List ℕ) → slice_get payloads i ≡ Some p → i + 1 ≡ length payloads
      → (0 < length p) × (length p ≤ unit)

-- The packets of the message to a destination: their payloads are the message's cut, the i-th has number
-- start + i modulo 4, SOM is on the first alone and EOM on the last alone, and the reserved bits are 0.
pub record ArePacketsOf (unit : ℕ) (message : List ℕ) (destination : ℕ) (key : KeyValue) (start : ℕ)
    (frames : List PacketValue) : Type 0 where
  pub cut : IsCut unit message (map (λ f. f.payload) frames)
  pub addressed : EachPacket frames (λ i f. f.destination ≡ destination)
  pub of_key : EachPacket frames (λ i f. key_of f ≡ key)
  pub numbers : EachPacket frames (λ i f. f.number ≡ (start + i) % 4)
  pub som : EachPacket frames (λ i f. f.som ≡ (i == 0))
  pub eom : EachPacket frames (λ i f. f.eom ≡ (i + 1 == length frames))
  pub reserved : EachPacket frames (λ i f. f.reserved ≡ 0)
