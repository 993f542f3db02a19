-- Which plans keep all that a board gives.
use Rattle.std.specs.Prelude.{◌≡◌, ◌⊎◌, ℕ, ◌+◌, ◌<◌, List, [], ◌∷◌, codes, length, Option, Some, None, option_map, option_and_then, unwrap_or, slice_get, string_bytes}
use Rattle.hex.specs.Hex.{encode_lower}
use Rattle.toml.specs.Data.{Data, get}
use Rattle.board.specs.declared.board.RecordFile.{RecordFile}
use Rattle.plan_values.{specs.declared.plan.Plan.{Plan}, specs.declared.nodes.Bus.{Bus}, specs.declared.nodes.Kind.{Kind}, specs.declared.nodes.Node.{Node}, specs.declared.nodes.Pool.{Pool}, specs.declared.nodes.Port.{Port}, specs.declared.nodes.Row.{Row}, specs.declared.terminus.PlannedRecord.{PlannedRecord}, specs.declared.terminus.PlannedTerminus.{PlannedTerminus}}
use Rattle.board_values.{specs.Said.{SaysText, SaysNumber, SaysOr, SaysNoneOr, item_at, IsListAt, HasOnlyKeys, AreItemsKept}, specs.Eids.{SaysRun}}
use Rattle.board_kept.{specs.Keys.{IsBoardKey, IsBusKey, IsNodeKey, IsHexKey, IsFileKey}, specs.Texts.{binding_word, port_text, row_text}, specs.Fields.{AreFieldsGiven}}
use Rattle.net_tables.specs.Names.{kind_word, name_of_node}

-- the number of a binding, or its word; I2C has the number of SMBus
abbrev pub SaysBinding : Option Data → ℕ → Type 0
SaysBinding said n = SaysNumber said n ⊎ ((word : List ℕ) × (binding_word n ≡ Some word) × SaysText said word)
    ⊎ ((n ≡ 1) × SaysText said (codes "i2c"))

-- nothing stands there, or the word for addresses of 7 bits
abbrev pub IsFormKept : Option Data → Type 0
IsFormKept said = (said ≡ None) ⊎ SaysText said (codes "7-bit")

-- a bus: a medium that is left out is 0
pub record IsBusKept (bus : Bus) (d : Data) : Type 0 where
  pub keys : HasOnlyKeys IsBusKey d
  pub name : SaysText (get (codes "name") d) (string_bytes bus.name.text)
  pub binding : SaysBinding (get (codes "binding") d) bus.binding
  pub media : SaysOr 0 (get (codes "media") d) bus.media
  pub addresses : IsFormKept (get (codes "addresses") d)

-- the kind, if it stands there
abbrev pub IsKindKept : Kind → Option Data → Type 0
IsKindKept kind said = (said ≡ None) ⊎ SaysText said (kind_word kind)

-- the owner by its name; nobody where nothing stands there
abbrev pub IsOwnerKept : Plan → Option ℕ → Option Data → Type 0
IsOwnerKept plan owner said = ((said ≡ None) × (owner ≡ None))
    ⊎ ((m : ℕ) × (name : List ℕ) × (owner ≡ Some m) × (name_of_node plan m ≡ Some name) × SaysText said name)

-- the endpoint IDs of a pool, or its size
abbrev pub SaysPool : Pool → Option Data → Type 0
SaysPool pool said = SaysRun said pool.first.value pool.size ⊎ SaysNumber said pool.size

-- a pool; none where nothing stands there
abbrev pub IsPoolKept : Option Pool → Option Data → Type 0
IsPoolKept pool said = ((said ≡ None) × (pool ≡ None))
    ⊎ ((p : Pool) × (pool ≡ Some p) × SaysPool p said)

-- the bus at an index writes the addresses of its ports in 7 bits
abbrev pub IsOfSevenBits : Data → ℕ → Type 0
IsOfSevenBits board b =
    SaysText (option_and_then (get (codes "addresses")) (item_at (codes "bus") b board)) (codes "7-bit")

-- The bytes of an address of 7 bits, and those on the wire: twice as much, since the 7 bits stand above the lowest bit
-- of the byte. A port without an address has none on the wire.
abbrev pub IsShifted : List ℕ → List ℕ → Type 0
IsShifted given wire =
    ((given ≡ []) × (wire ≡ [])) ⊎ ((a : ℕ) × (a < 128) × (given ≡ a ∷ []) × (wire ≡ (a + a) ∷ []))

-- the bytes of an address as the board gives it, and those on the wire of the bus at an index
abbrev pub IsOnWire : Data → ℕ → List ℕ → List ℕ → Type 0
IsOnWire board b given wire =
    (IsOfSevenBits board b × IsShifted given wire) ⊎ (¬ IsOfSevenBits board b × (given ≡ wire))

-- a port by its bus and its address, which the plan has as it is on the wire
pub record IsPortKept (board : Data) (plan : Plan) (port : Port) (d : Data) : Type 0 where
  pub given : List ℕ
  pub address : IsOnWire board port.bus given port.address.items
  pub text : SaysText (Some d) (port_text plan port.bus given)

-- one of the rows is what stands there
abbrev pub IsAmongRows : Plan → List Row → Option Data → Type 0
IsAmongRows plan rows said = (r : ℕ) × (row : Row) × (slice_get rows r ≡ Some row) × SaysText said (row_text plan row)

-- nothing stands at the index of the list, or one of the rows
abbrev pub IsRowKeptAt : Plan → List Row → Data → ℕ → Type 0
IsRowKeptAt plan rows d i = (item_at (codes "rows") i d ≡ None) ⊎ IsAmongRows plan rows (item_at (codes "rows") i d)

-- each row that stands in the list is one of these
pub record AreRowsKept (plan : Plan) (rows : List Row) (d : Data) : Type 0 where
  pub list : IsListAt (codes "rows") d
  pub each : (i : ℕ) → IsRowKeptAt plan rows d i

-- what stands there is a node's name
abbrev pub NamesNode : Plan → Option Data → Type 0
NamesNode plan said = (n : ℕ) × (name : List ℕ) × (name_of_node plan n ≡ Some name) × SaysText said name

-- nothing stands at the index of the list, or a node's name
abbrev pub IsNameAt : Plan → Data → ℕ → Type 0
IsNameAt plan d i = (item_at (codes "reaches") i d ≡ None) ⊎ NamesNode plan (item_at (codes "reaches") i d)

-- each name that stands in the list is a node's
pub record AreNamesKept (plan : Plan) (d : Data) : Type 0 where
  pub list : IsListAt (codes "reaches") d
  pub each : (i : ℕ) → IsNameAt plan d i

-- the handle of the record that follows, 0 behind the last
abbrev pub next_handle : List PlannedRecord → ℕ → ℕ
next_handle records j = unwrap_or (option_map (λ r. r.handle) (slice_get records (j + 1))) 0

-- the files have one of this name with these bytes
abbrev pub HaveFile : List RecordFile → List ℕ → List ℕ → Type 0
HaveFile files name bytes = (i : ℕ) × (file : RecordFile) × (slice_get files i ≡ Some file)
    × (string_bytes file.name ≡ name) × (file.bytes.items ≡ bytes)

-- the bytes stand there in hex
abbrev pub IsHexKept : List ℕ → Data → Type 0
IsHexKept bytes d = HasOnlyKeys IsHexKey d × SaysText (get (codes "hex") d) (encode_lower bytes)

-- the bytes are those of the file that stands there
abbrev pub IsFileKept : List RecordFile → List ℕ → Data → Type 0
IsFileKept files bytes d = HasOnlyKeys IsFileKey d
    × ((name : List ℕ) × SaysText (get (codes "file") d) name × HaveFile files name bytes)

-- the bytes are a record's whose fields stand there
abbrev pub AreFieldsKept : Plan → List ℕ → Data → Type 0
AreFieldsKept plan bytes d =
    (type : List ℕ) × SaysText (get (codes "type") d) type × AreFieldsGiven plan type bytes d

-- the bytes of a record, in hex or a file with nothing but its handles beside it, or by its fields
abbrev pub AreBytesKept : List RecordFile → Plan → List ℕ → Data → Type 0
AreBytesKept files plan bytes d = IsHexKept bytes d ⊎ IsFileKept files bytes d ⊎ AreFieldsKept plan bytes d

-- A record, and its place in the list: a handle that is left out may be any, and next handles that are left out follow
-- the list.
pub record IsRecordKept (files : List RecordFile) (plan : Plan) (records : List PlannedRecord) (j : ℕ)
    (r : PlannedRecord) (d : Data) : Type 0 where
  pub handle : SaysNoneOr (get (codes "handle") d) r.handle
  pub next : SaysOr (next_handle records j) (get (codes "next") d) r.next
  pub bytes : AreBytesKept files plan r.bytes.items d

-- the record at an index, if there is one
abbrev pub IsRecordKeptAt : List RecordFile → Plan → List PlannedRecord → Data → ℕ → Type 0
IsRecordKeptAt files plan records d j = (r : PlannedRecord) → slice_get records j ≡ Some r
    → (e : Data) × (item_at (codes "record") j d ≡ Some e) × IsRecordKept files plan records j r e

-- the records of a list
pub record AreRecordsKept (files : List RecordFile) (plan : Plan) (records : List PlannedRecord) (d : Data) : Type 0
  where
    pub list : IsListAt (codes "record") d
    pub each : (j : ℕ) → IsRecordKeptAt files plan records d j
    pub no_more : item_at (codes "record") (length records) d ≡ None

-- a terminus: a terminus ID that is left out is 0
pub record IsTerminusGiven (files : List RecordFile) (plan : Plan) (t : PlannedTerminus) (d : Data) : Type 0 where
  pub tid : SaysOr 0 (get (codes "tid") d) t.tid
  pub records : AreRecordsKept files plan t.records.items d

-- neither a terminus ID nor a record stands there
pub record HasNoTerminus (d : Data) : Type 0 where
  pub tid : get (codes "tid") d ≡ None
  pub list : IsListAt (codes "record") d
  pub record_is : item_at (codes "record") 0 d ≡ None

-- a node has a terminus exactly where a terminus ID or a record stands there
abbrev pub IsTerminusKept : List RecordFile → Plan → Option PlannedTerminus → Data → Type 0
IsTerminusKept files plan terminus d = (HasNoTerminus d × (terminus ≡ None))
    ⊎ ((t : PlannedTerminus) × (terminus ≡ Some t) × ¬ HasNoTerminus d × IsTerminusGiven files plan t d)

-- the name, the kind, the endpoint ID and the owner of a node
pub record IsHeadKept (plan : Plan) (node : Node) (d : Data) : Type 0 where
  pub name : SaysText (get (codes "name") d) (string_bytes node.name.text)
  pub kind : IsKindKept node.kind (get (codes "kind") d)
  pub eid : SaysNoneOr (get (codes "eid") d) node.eid.value
  pub owner : IsOwnerKept plan node.owner (get (codes "owner") d)

-- a node
pub record IsNodeKept (files : List RecordFile) (board : Data) (plan : Plan) (node : Node) (d : Data) : Type 0 where
  pub keys : HasOnlyKeys IsNodeKey d
  pub head : IsHeadKept plan node d
  pub pool : IsPoolKept node.pool (get (codes "pool") d)
  pub ports : AreItemsKept (IsPortKept board plan) node.ports.items (codes "ports") d
  pub rows : AreRowsKept plan node.rows.items d
  pub reaches : AreNamesKept plan d
  pub terminus : IsTerminusKept files plan node.terminus d

-- All that the board gives is in the plan: the unit, the buses and the nodes in their order, and of each node what is
-- given of it. Nothing else stands in the board's tables. The bytes of files that its records name are given beside it.
pub record Keeps (files : List RecordFile) (board : Data) (plan : Plan) : Type 0 where
  pub keys : HasOnlyKeys IsBoardKey board
  pub unit : SaysOr 64 (get (codes "unit") board) plan.unit
  pub buses : AreItemsKept IsBusKept plan.buses.items (codes "bus") board
  pub nodes : AreItemsKept (IsNodeKept files board plan) plan.nodes.items (codes "node") board
