-- Capture files of blocks (pcapng): sections, each of which begins with a header and describes its interfaces.
use Rattle.std.{specs.Prelude.{◌≡◌, ◌≢◌, ◌⊎◌, ℕ, ◌+◌, ◌-◌, ◌*◌, ◌%◌, ◌<◌, ◌≤◌, ◌^◌, ◌==◌, ◌||◌, not, nat_le, min, Bool, true, false, List, [], ◌∷◌, ◌++◌, length, take, drop, reverse, Option, None, Some, find, option_map, slice_get, if◌then◌else◌}, specs.List.{flat_map, filter, take_while, AllZip}}
use Rattle.bus_captures.{specs.declared.capture.End.{End}, specs.declared.format.Order.{Order}, specs.Frames.{FrameValue, unread, IsFrameUnder, entry_of}, specs.Interfaces.{InterfaceValue, Describes, time_by}, specs.Numbers.{number_bytes, short_bytes, number_at}, specs.Values.{most_entries, EntryValue, Unknown}}
use Rattle.bus_captures.specs.declared.capture.CaptureFault.TheVariants as fault
use Rattle.bus_captures.specs.declared.capture.End.TheVariants as end
use Rattle.bus_captures.specs.declared.capture.Unread.TheVariants as cause

pub record Block : Type 0 where
  pub order : Order
  pub kind : ℕ
  pub body : List ℕ

pub record IsBlock (b : Block) : Type 0 where
  pub kind : b.kind < 2 ^ 32
  pub count : 12 + length b.body < 2 ^ 32
  pub filled : length b.body % 4 ≡ 0

-- its kind, the length of the whole block, the body, and that length again
abbrev pub block_bytes : Block → List ℕ
block_bytes b = number_bytes b.order b.kind ++ number_bytes b.order (12 + length b.body) ++ b.body
    ++ number_bytes b.order (12 + length b.body)

-- the kinds of blocks that are read: the header of a section, an interface, and packets
abbrev pub is_section : Block → Bool
is_section b = b.kind == 168627466

abbrev pub is_interface : Block → Bool
is_interface b = b.kind == 1

abbrev pub is_enhanced : Block → Bool
is_enhanced b = b.kind == 6

abbrev pub is_packet : Block → Bool
is_packet b = is_enhanced b || (b.kind == 3)

-- the body tells its byte order by a number, and behind it the version 1, and has at least ten bytes more
pub record BeginsSection (b : Block) : Type 0 where
  pub kind : is_section b ≡ true
  pub more : List ℕ
  pub body : b.body ≡ number_bytes b.order 439041101 ++ short_bytes b.order 1 ++ more
  pub long : 10 ≤ length more

-- a block within a section has the section's byte order; that of an interface has at least its eight bytes
pub record IsWithin (section : Option Order) (b : Block) : Type 0 where
  pub kind : is_section b ≡ false
  pub order : section ≡ Some b.order
  pub long : is_interface b ≡ true → 8 ≤ length b.body

-- a block that may follow in a section, or begin one
abbrev pub IsNext : Option Order → Block → Type 0
IsNext section b = BeginsSection b ⊎ IsWithin section b

-- the bytes begin with a block that may stand there
abbrev pub BeginsWith : Option Order → List ℕ → Block → Type 0
BeginsWith section bytes b =
    IsBlock b × IsNext section b × ((rest : List ℕ) × (bytes ≡ block_bytes b ++ rest))

-- the byte order of the section with which these blocks end: that of the last header
abbrev pub order_behind : List Block → Option Order
order_behind blocks = option_map (λ b. b.order) (find is_section (reverse blocks))

-- the blocks of that section behind its header
abbrev pub last_section : List Block → List Block
last_section blocks = reverse (take_while (λ b. not (is_section b)) (reverse blocks))

-- the blocks that describe interfaces, and how many of them stand in sections before the last one
abbrev pub described : List Block → List Block
described blocks = filter is_interface blocks

abbrev pub described_before : List Block → ℕ
described_before blocks = length (described blocks) - length (described (last_section blocks))

-- what a block has of a packet: the number of its interface in the section, when it was captured, how many bytes the
-- packet had, and those that were kept
pub record PacketValue : Type 0 where
  pub interface : ℕ
  pub stamp : Option ℕ
  pub original : ℕ
  pub kept : List ℕ

-- An enhanced block has them at its front, each in four bytes, and the timestamp in eight. It may have options behind.
abbrev pub enhanced_packet : Block → Option PacketValue
enhanced_packet b =
    if nat_le (20 + number_at b.order 12 b.body) (length b.body)
    then Some (record {
      interface = number_at b.order 0 b.body;
      stamp = Some (number_at b.order 4 b.body * 4294967296 + number_at b.order 8 b.body);
      original = number_at b.order 16 b.body;
      kept = take (number_at b.order 12 b.body) (drop 20 b.body);
    })
    else None

-- how many bytes an interface keeps of a packet: all where none is described
abbrev pub kept_by : Option InterfaceValue → ℕ → ℕ
kept_by None original = original
kept_by (Some i) original = if i.most == 0 then original else min i.most original

-- A simple block has how many bytes there were, and is of the section's first interface.
abbrev pub simple_packet : Option InterfaceValue → Block → Option PacketValue
simple_packet first b =
    if nat_le (4 + kept_by first (number_at b.order 0 b.body)) (length b.body)
    then Some (record {
      interface = 0;
      stamp = None;
      original = number_at b.order 0 b.body;
      kept = take (kept_by first (number_at b.order 0 b.body)) (drop 4 b.body);
    })
    else None

-- what a block has of a packet, where this is the first interface of its section
abbrev pub packet_in : Option InterfaceValue → Block → Option PacketValue
packet_in first b = if is_enhanced b then enhanced_packet b else simple_packet first b

-- the number of an interface in a file: the largest one of four bytes for a larger number
abbrev pub number_of : ℕ → ℕ → ℕ
number_of before interface = min (before + interface) (2 ^ 32 - 1)

-- a packet on an interface is this entry, where so many interfaces stand in earlier sections
abbrev pub IsEntryOn : ℕ → PacketValue → Option InterfaceValue → EntryValue → Type 0
IsEntryOn before p None e = e ≡ entry_of Unknown None None (unread cause.Interface p.kept)
IsEntryOn before p (Some i) e = (f : FrameValue) × IsFrameUnder i.link p.original p.kept f
    × (e ≡ entry_of (time_by i.units p.stamp) (Some (number_of before p.interface)) i.name f)

-- what a block has of a packet is this entry, where these are the interfaces of its section
abbrev pub IsEntryBy : ℕ → List InterfaceValue → Block → Option PacketValue → EntryValue → Type 0
IsEntryBy before own b None e = e ≡ entry_of Unknown None None (unread cause.Block b.body)
IsEntryBy before own b (Some p) e = IsEntryOn before p (slice_get own p.interface) e

abbrev pub IsPacketEntry : ℕ → List InterfaceValue → Block → EntryValue → Type 0
IsPacketEntry before own b e = IsEntryBy before own b (packet_in (slice_get own 0) b) e

abbrev pub IsDescribed : Block → InterfaceValue → Type 0
IsDescribed b i = Describes b.order b.body i

-- the packet of a block that stands behind these is this entry
abbrev pub IsEntryOf : List Block → Block → EntryValue → Type 0
IsEntryOf blocks b e = (own : List InterfaceValue) × AllZip IsDescribed (described (last_section blocks)) own
    × IsPacketEntry (described_before blocks) own b e

-- The packets of these blocks are these entries, one after the other. Other blocks have none.
pub data AreRead : List Block → List EntryValue → Type 0 where
  Nothing : AreRead [] []
  Other : (blocks : List Block) (entries : List EntryValue) (b : Block) → AreRead blocks entries
      → IsBlock b → IsNext (order_behind blocks) b → is_packet b ≡ false → AreRead (blocks ++ b ∷ []) entries
  Packet : (blocks : List Block) (entries : List EntryValue) (b : Block) (e : EntryValue) → AreRead blocks entries
      → IsBlock b → IsNext (order_behind blocks) b → is_packet b ≡ true → IsEntryOf blocks b e
      → AreRead (blocks ++ b ∷ []) (entries ++ e ∷ [])

-- how reading ends behind these blocks and so many entries, where these bytes are left
abbrev pub EndsBlocks : List Block → ℕ → List ℕ → End → Type 0
EndsBlocks blocks entries left end.Whole = left ≡ []
EndsBlocks blocks entries left end.Full = (entries ≡ most_entries)
    × ((b : Block) × BeginsWith (order_behind blocks) left b × (is_packet b ≡ true))
EndsBlocks blocks entries left (end.Broken place why) = (place ≡ length blocks + 1) × (why ≡ fault.Block)
    × (left ≢ []) × ((b : Block) → ¬ BeginsWith (order_behind blocks) left b)

-- The bytes are blocks, up to those that are left, and the packets of the blocks are the entries.
pub record IsBlockFile (bytes : List ℕ) (entries : List EntryValue) (how : End) : Type 0 where
  pub blocks : List Block
  pub left : List ℕ
  pub spelled : bytes ≡ flat_map block_bytes blocks ++ left
  pub each : AreRead blocks entries
  pub ends : EndsBlocks blocks (length entries) left how

-- the bytes begin as a section's header does, in either byte order
abbrev pub BeginsBlocks : List ℕ → Type 0
BeginsBlocks bytes = (rest : List ℕ) × (bytes ≡ 10 ∷ 13 ∷ 13 ∷ 10 ∷ rest)
