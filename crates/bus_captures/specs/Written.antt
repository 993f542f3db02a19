-- Capture files that are written: packets of MCTP alone, of the second cooked link type, with times in nanoseconds.
use Rattle.std.{specs.Prelude.{◌≡◌, ℕ, ◌+◌, ◌-◌, ◌<◌, ◌≤◌, ◌^◌, List, [], ◌∷◌, ◌++◌, length, map, None, Some, replicate}, specs.List.{flat_map}}
use Rattle.byteorder.specs.Endian.{big_bytes}
use Rattle.bus_captures.{specs.declared.capture.End.{End}, specs.declared.carried.CarriedPacket.{CarriedPacket}, specs.Captures.{IsCapture}, specs.Files.{FileRecord, magic, record_bytes}, specs.Links.{link_number}, specs.Numbers.{number_bytes}, specs.Values.{EntryValue, At, on_linux}}
use Rattle.bus_captures.specs.declared.capture.Direction.TheVariants as direction
use Rattle.bus_captures.specs.declared.capture.End.TheVariants as end
use Rattle.bus_captures.specs.declared.capture.Kind.TheVariants as kind
use Rattle.bus_captures.specs.declared.format.Order.TheVariants as order
use Rattle.bus_captures.specs.declared.format.TimeUnit.TheVariants as unit
use Rattle.bus_captures.specs.declared.link.Link.TheVariants as link

-- a packet that went over a bus: when, on which interface, from which physical address, and its bytes
pub record CarriedValue : Type 0 where
  pub seconds : ℕ
  pub nanoseconds : ℕ
  pub interface : ℕ
  pub address : List ℕ
  pub bytes : List ℕ

abbrev pub carried_value : CarriedPacket → CarriedValue
carried_value p = record {
  seconds = p.seconds;
  nanoseconds = p.nanoseconds;
  interface = p.interface;
  address = p.address.now;
  bytes = p.bytes.now;
}

-- what a file has room for
pub record IsCarried (p : CarriedValue) : Type 0 where
  pub seconds : p.seconds < 2 ^ 32
  pub nanoseconds : p.nanoseconds < 2 ^ 32
  pub interface : p.interface < 2 ^ 32
  pub address : length p.address ≤ 8
  pub bytes : length p.bytes ≤ 1028

-- Linux' header of the second cooked link type: the protocol of MCTP, two bytes that are 0, the interface, the hardware
-- type of MCTP (290), packet type 3 (from somebody to somebody else), and the sender's address, filled up to 8 bytes.
abbrev pub link_header : CarriedValue → List ℕ
link_header p = big_bytes 2 250 ++ big_bytes 2 0 ++ big_bytes 4 p.interface ++ big_bytes 2 290
    ++ 3 ∷ length p.address ∷ p.address ++ replicate (8 - length p.address) 0

-- all of it is kept
abbrev pub carried_record : CarriedValue → FileRecord
carried_record p = record {
  seconds = p.seconds;
  fraction = p.nanoseconds;
  original = 20 + length p.bytes;
  bytes = link_header p ++ p.bytes;
}

-- Version 2.4, no zone, no accuracy, and records of at most 262,144 bytes.
abbrev pub header_fields : List ℕ
header_fields = 2 ∷ 0 ∷ 4 ∷ 0 ∷ 0 ∷ 0 ∷ 0 ∷ 0 ∷ 0 ∷ 0 ∷ 0 ∷ 0 ∷ 0 ∷ 0 ∷ 4 ∷ 0 ∷ []

abbrev pub written_bytes : CarriedValue → List ℕ
written_bytes p = record_bytes order.Little (carried_record p)

abbrev pub written_file : List CarriedValue → List ℕ
written_file ps = number_bytes order.Little (magic unit.Nano) ++ header_fields
    ++ number_bytes order.Little (link_number link.CookedAgain) ++ flat_map written_bytes ps

-- the packet as an entry of a capture
abbrev pub carried_entry : CarriedValue → EntryValue
carried_entry p = record {
  time = At p.seconds p.nanoseconds;
  direction = Some direction.Received;
  interface = on_linux (Some p.interface);
  name = None;
  kind = kind.Packet;
  bytes = p.bytes;
}

-- Whatever reads the file as a capture reads just these packets, and reads to the end.
abbrev pub ReadsBack : List CarriedValue → Type 0
ReadsBack ps = (entries : List EntryValue) (how : End) → IsCapture (written_file ps) entries how
    → (entries ≡ map carried_entry ps) × (how ≡ end.Whole)
