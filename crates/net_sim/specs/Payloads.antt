-- The payloads of the packets that a network keeps, and the rooms that they take.
use Rattle.std.specs.Prelude.{◌≡◌, ℕ, ◌<◌, ◌≤◌, List, [], length, All, Vec, vec_capacity}
use Rattle.mctp_transport.specs.PacketValues.{PacketValue}
use Rattle.net_sim.{specs.declared.payload.Payload.{Payload}, specs.declared.payload.Payload.TheVariants.{Short, Long}}

abbrev pub payload_bytes : Payload → List ℕ
payload_bytes (Short bytes) = bytes.items
payload_bytes (Long bytes) = bytes.items

-- a payload of so many bytes needs no room, or this one is empty and holds so many
abbrev pub IsRoomFor : {Z : Type 0} → ℕ → Vec ℕ Z → Type 0
IsRoomFor count room = 64 < count → (room.items ≡ []) × (count ≤ vec_capacity room)

-- Where one of the packets has a payload that needs room, there are as many rooms as packets, each for such a payload.
abbrev pub HaveRooms : {Z : Type 0} → List PacketValue → List (Vec ℕ Z) → Type 0
HaveRooms frames rooms =
    All (λ f. 64 < length f.payload → (length frames ≤ length rooms) × All (IsRoomFor (length f.payload)) rooms) frames
