-- What a record holds of the bus, by its link type (tcpdump.org, "Link-layer header types").
use Rattle.std.specs.Prelude.{◌≡◌, ℕ, ◌%◌, ◌==◌, List, drop, slice_index, Option, None, Some, if◌then◌else◌}
use Rattle.byteorder.specs.Endian.{big_number}
use Rattle.bus_captures.{specs.declared.capture.Direction.{Direction}, specs.declared.capture.Kind.{Kind}, specs.declared.link.Link.{Link}, specs.Smbus.{IsUnframed, IsFramedOnly}}
use Rattle.bus_captures.specs.declared.capture.Direction.TheVariants as direction
use Rattle.bus_captures.specs.declared.capture.Kind.TheVariants as kind
use Rattle.bus_captures.specs.declared.link.Link.TheVariants as link

-- the number of a link type in a file
abbrev pub link_number : Link → ℕ
link_number link.Raw = 147
link_number link.Mctp = 291
link_number link.I2c = 209
link_number link.Cooked = 113
link_number link.CookedAgain = 276

-- the link type of a number, where it is one of those that are read
abbrev pub link_of : ℕ → Option Link
link_of number =
    if number == 147 then Some link.Raw else if number == 291 then Some link.Mctp
    else if number == 209 then Some link.I2c else if number == 113 then Some link.Cooked
    else if number == 276 then Some link.CookedAgain else None

-- how many bytes stand before the packet
abbrev pub link_length : Link → ℕ
link_length link.Raw = 0
link_length link.Mctp = 0
link_length link.I2c = 5
link_length link.Cooked = 16
link_length link.CookedAgain = 20

-- what the capturing side sent has the packet type 4
abbrev pub sent_or_received : ℕ → Direction
sent_or_received packet_type = if packet_type == 4 then direction.Sent else direction.Received

-- MCTP has the protocol number 0x00FA
abbrev pub kind_of : ℕ → Kind
kind_of protocol = if protocol == 250 then kind.Packet else kind.Other protocol

-- A cooked record has its packet type at byte 0 and its protocol at byte 14. One of the second version has its protocol
-- at byte 0 and its packet type at byte 10.
abbrev pub direction_of : Link → List ℕ → Option Direction
direction_of link.Raw bytes = None
direction_of link.Mctp bytes = None
direction_of link.I2c bytes = None
direction_of link.Cooked bytes = Some (sent_or_received (big_number 2 bytes))
direction_of link.CookedAgain bytes = Some (sent_or_received (slice_index bytes 10))

-- One of the second version has the number of its interface at byte 4. One of I2C has the number of the bus in the low
-- seven bits of its first byte.
abbrev pub index_of : Link → List ℕ → Option ℕ
index_of link.Raw bytes = None
index_of link.Mctp bytes = None
index_of link.I2c bytes = Some (slice_index bytes 0 % 128)
index_of link.Cooked bytes = None
index_of link.CookedAgain bytes = Some (big_number 4 (drop 4 bytes))

-- what the bytes are, and what is read of them
abbrev pub IsReadOf : Link → List ℕ → Kind → List ℕ → Type 0
IsReadOf link.Raw bytes what read = IsUnframed bytes what read
IsReadOf link.Mctp bytes what read = (what ≡ kind.Packet) × (read ≡ bytes)
IsReadOf link.I2c bytes what read = IsFramedOnly (drop 5 bytes) what read
IsReadOf link.Cooked bytes what read = (what ≡ kind_of (big_number 2 (drop 14 bytes))) × (read ≡ drop 16 bytes)
IsReadOf link.CookedAgain bytes what read = (what ≡ kind_of (big_number 2 bytes)) × (read ≡ drop 20 bytes)
