-- A routing table entry as plain numbers, and its bytes (DSP0236, "Get Routing Table Entries").
use Rattle.std.specs.Prelude.{ℕ, ◌+◌, ◌*◌, ◌<◌, ◌≤◌, Bool, List, ◌∷◌, length}
use Rattle.mctp_transport.{specs.PacketValues.{bit}, specs.Wire.{Spells}}
use Rattle.mctp_control.{specs.declared.route_entry.RouteEntry.{RouteEntry}, specs.Codes.{kind_number}}

-- an entry: the size of its range and the range's first EID, its kind by number, whether it is static, the
-- port that leads there, the numbers of the transport binding and of the media type, the physical address
pub record EntryValue : Type 0 where
  pub size : ℕ
  pub first : ℕ
  pub kind : ℕ
  pub fixed : Bool
  pub port : ℕ
  pub binding : ℕ
  pub media : ℕ
  pub address : List ℕ

abbrev pub entry_value : RouteEntry → EntryValue
entry_value e = record {
  size = e.size;
  first = e.first.value;
  kind = kind_number e.kind;
  fixed = e.is_static;
  port = e.port.value;
  binding = e.binding;
  media = e.media;
  address = e.address.items;
}

-- bits 7 and 6 the kind, bit 5 static, bits 4 to 0 the port
abbrev pub port_byte : EntryValue → ℕ
port_byte e = 64 * e.kind + 32 * bit e.fixed + e.port

abbrev pub entry_bytes : EntryValue → List ℕ
entry_bytes e = e.size ∷ e.first ∷ port_byte e ∷ e.binding ∷ e.media ∷ length e.address ∷ e.address

-- each field fits its bits, and the address has at most 52 bytes
pub record IsEntry (e : EntryValue) : Type 0 where
  pub size : e.size < 256
  pub first : e.first < 256
  pub kind : e.kind < 4
  pub port : e.port < 32
  pub binding : e.binding < 256
  pub media : e.media < 256
  pub address : length e.address ≤ 52

-- the bytes are the entry's, all of them
abbrev pub SpellsEntry : EntryValue → List ℕ → Type 0
SpellsEntry e bytes = Spells IsEntry entry_bytes e bytes
