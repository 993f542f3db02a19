-- A packet as plain numbers, and its bytes (DSP0236, section 8.1).
use Rattle.std.specs.Prelude.{ℕ, ◌<◌, ◌≤◌, ◌+◌, ◌*◌, Bool, true, false, List, ◌∷◌, length}
use Rattle.mctp_transport.specs.Wire.{Spells}

-- a packet: the fields of its header, and its payload
pub record PacketValue : Type 0 where
  pub reserved : ℕ
  pub destination : ℕ
  pub source : ℕ
  pub som : Bool
  pub eom : Bool
  pub number : ℕ
  pub owner : Bool
  pub tag : ℕ
  pub payload : List ℕ

-- what tells one message under way from another
pub record KeyValue : Type 0 where
  pub source : ℕ
  pub tag : ℕ
  pub owner : Bool

abbrev pub key_of : PacketValue → KeyValue
key_of f = record { source = f.source; tag = f.tag; owner = f.owner }

-- an endpoint ID that an endpoint can hold
abbrev pub IsAssignable : ℕ → Type 0
IsAssignable e = (8 ≤ e) × (e ≤ 254)

-- 1 where the flag is set
abbrev pub bit : Bool → ℕ
bit true = 1
bit false = 0

-- bits 7 to 4 reserved, bits 3 to 0 the header version, 1
abbrev pub version_byte : PacketValue → ℕ
version_byte f = 16 * f.reserved + 1

-- bit 7 SOM, bit 6 EOM, bits 5 and 4 the number, bit 3 the owner bit, bits 2 to 0 the tag
abbrev pub flag_byte : PacketValue → ℕ
flag_byte f = 128 * bit f.som + 64 * bit f.eom + 16 * f.number + 8 * bit f.owner + f.tag

abbrev pub packet_value_bytes : PacketValue → List ℕ
packet_value_bytes f = version_byte f ∷ f.destination ∷ f.source ∷ flag_byte f ∷ f.payload

-- a transmission unit: how many payload bytes a packet may have, from the baseline's 64 to 1024
abbrev pub IsUnit : ℕ → Type 0
IsUnit unit = (64 ≤ unit) × (unit ≤ 1024)

-- each field fits its bits, and the payload has at least one byte and at most the transmission unit
pub record IsPacketValue (unit : ℕ) (f : PacketValue) : Type 0 where
  pub reserved : f.reserved < 16
  pub destination : f.destination < 256
  pub source : f.source < 256
  pub number : f.number < 4
  pub tag : f.tag < 8
  pub some : 0 < length f.payload
  pub most : length f.payload ≤ unit

-- the bytes are the packet's, under a transmission unit
abbrev pub Spelled : ℕ → PacketValue → List ℕ → Type 0
Spelled unit f bytes = Spells (IsPacketValue unit) packet_value_bytes f bytes
