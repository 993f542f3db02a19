-- What a line of the line protocol says to a node: the name of a bus, a physical address where lines have these, and
-- behind it a packet as a line of a text capture has it.
use Rattle.std.specs.Prelude.{◌≡◌, ◌≢◌, ◌⊎◌, ℕ, Bool, true, false, List, [], ◌∷◌, Some, Ok, codes}
use Rattle.bus_captures.{specs.Captures.{IsCapture}, specs.Lines.{behind_word, uncommented, word}, specs.Values.{EntryValue}, specs.declared.capture.End.{End}}
use Rattle.bus_commands.specs.declared.line.Said.{Said}
use Rattle.emulated_node.specs.Ways.{IsAt}
use Rattle.hex.specs.Hex.{decode_of}
use Rattle.plan_values.specs.declared.plan.Plan.{Plan}
use Rattle.net_tables.{specs.Names.{name_of_bus}, specs.Rows.{IsOnBus}}
use Rattle.bus_captures.specs.declared.capture.End.TheVariants as end
use Rattle.bus_captures.specs.declared.capture.Kind.TheVariants as kind
use Rattle.bus_commands.specs.declared.line.Said.TheVariants as said

-- nothing but a comment; no bus on which the node has a port; no address; an address that isn't the node's; no packet;
-- or these bytes, which came over the bus
pub data SaidValue : Type 0 where
  Nothing : SaidValue
  NoBus : SaidValue
  NoAddress : SaidValue
  Elsewhere : SaidValue
  NoPacket : SaidValue
  Packet : (bus : ℕ) → (bytes : List ℕ) → SaidValue

abbrev pub said_value : Said → SaidValue
said_value said.Nothing = Nothing
said_value said.NoBus = NoBus
said_value said.NoAddress = NoAddress
said_value said.Elsewhere = Elsewhere
said_value said.NoPacket = NoPacket
said_value (said.Packet bus bytes) = Packet bus bytes.items

-- b is a bus of the name, and n has a port on it
abbrev pub NamesBus : Plan → ℕ → List ℕ → ℕ → Type 0
NamesBus plan n name b = (name_of_bus plan b ≡ Some name) × IsOnBus plan n b

-- the entries are one packet of these bytes, and all was read
pub record IsOnePacket (entries : List EntryValue) (how : End) (bytes : List ℕ) : Type 0 where
  pub entry : EntryValue
  pub whole : how ≡ end.Whole
  pub only : entries ≡ entry ∷ []
  pub packet : entry.kind ≡ kind.Packet
  pub bytes_are : bytes ≡ entry.bytes

-- the text, read as a capture, is one packet of these bytes
abbrev pub IsPacketText : List ℕ → List ℕ → Type 0
IsPacketText text bytes =
    (entries : List EntryValue) × (how : End) × IsCapture text entries how × IsOnePacket entries how bytes

-- the text, read as a capture, is something else
abbrev pub IsOtherText : List ℕ → Type 0
IsOtherText text = (entries : List EntryValue) × (how : End) × IsCapture text entries how
    × ((bytes : List ℕ) → ¬ IsOnePacket entries how bytes)

-- what the text behind the name of a bus says, where it is a packet
abbrev pub IsReadOver : ℕ → List ℕ → SaidValue → Type 0
IsReadOver over text Nothing = ⊥
IsReadOver over text NoBus = ⊥
IsReadOver over text NoAddress = ⊥
IsReadOver over text Elsewhere = ⊥
IsReadOver over text NoPacket = IsOtherText text
IsReadOver over text (Packet bus bytes) = (bus ≡ over) × IsPacketText text bytes

-- the word is a physical address in hex; a dash is one without bytes
abbrev pub NamesAddress : List ℕ → List ℕ → Type 0
NamesAddress w address =
    ((w ≡ codes "-") × (address ≡ [])) ⊎ ((w ≢ codes "-") × (w ≢ []) × (decode_of w ≡ Ok address))

-- the word is the physical address of n on the bus
abbrev pub NamesNode : Plan → ℕ → ℕ → List ℕ → Type 0
NamesNode plan n bus w = (address : List ℕ) × NamesAddress w address × IsAt plan n bus address

-- what the text behind the name of a bus says, where its first word is a physical address
abbrev pub IsReadAt : Plan → ℕ → ℕ → List ℕ → SaidValue → Type 0
IsReadAt plan n over text Nothing = ⊥
IsReadAt plan n over text NoBus = ⊥
IsReadAt plan n over text NoAddress = (address : List ℕ) → ¬ NamesAddress (word text) address
IsReadAt plan n over text Elsewhere =
    (address : List ℕ) × NamesAddress (word text) address × ¬ IsAt plan n over address
IsReadAt plan n over text NoPacket = NamesNode plan n over (word text) × IsReadOver over (behind_word text) NoPacket
IsReadAt plan n over text (Packet bus bytes) =
    NamesNode plan n over (word text) × IsReadOver over (behind_word text) (Packet bus bytes)

-- what it says, whether lines have addresses or not
abbrev pub IsReadBehind : Bool → Plan → ℕ → ℕ → List ℕ → SaidValue → Type 0
IsReadBehind true plan n over text says = IsReadAt plan n over text says
IsReadBehind false plan n over text says = IsReadOver over text says

-- the first word names a bus on which n has a port, and this is said behind it
abbrev pub IsSaidOver : Bool → Plan → ℕ → List ℕ → SaidValue → Type 0
IsSaidOver addressed plan n text says = (word text ≢ [])
    × ((over : ℕ) × NamesBus plan n (word text) over × IsReadBehind addressed plan n over (behind_word text) says)

-- The first word before a comment names a bus, and behind it stands the packet.
abbrev pub Says : Bool → Plan → ℕ → List ℕ → SaidValue → Type 0
Says addressed plan n line Nothing = word (uncommented line) ≡ []
Says addressed plan n line NoBus =
    (word (uncommented line) ≢ []) × ((b : ℕ) → ¬ NamesBus plan n (word (uncommented line)) b)
Says addressed plan n line NoAddress = IsSaidOver addressed plan n (uncommented line) NoAddress
Says addressed plan n line Elsewhere = IsSaidOver addressed plan n (uncommented line) Elsewhere
Says addressed plan n line NoPacket = IsSaidOver addressed plan n (uncommented line) NoPacket
Says addressed plan n line (Packet bus bytes) = IsSaidOver addressed plan n (uncommented line) (Packet bus bytes)
