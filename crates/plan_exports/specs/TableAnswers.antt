-- How a planned bridge tells its routing table: the answers to Get Routing Table Entries, from the first entry to the
-- last (DSP0236).
use Rattle.std.{specs.Prelude.{◌≡◌, ℕ, ◌∷◌, ◌++◌, List, map, length, All, Some, None, codes}, specs.List.{flat_map}}
use Rattle.hex.specs.Hex.{encode_lower}
use Rattle.mctp_transport.specs.declared.device_kind.DeviceKind.TheVariants.{Bridge}
use Rattle.mctp_routing.specs.declared.row.TableRow.{TableRow}
use Rattle.mctp_control.{specs.Devices.{DeviceValue}, specs.EntryLists.{entries_bytes}, specs.Replies.{Replies, reply_bytes}, specs.RouteEntries.{EntryValue}}
use Rattle.mctp_bridge.{specs.Entries.{table_entries}, specs.Readers.{asking}, specs.Reads.{Exchange, IsTablePart, Reads, due_after}, specs.declared.routing_entries.Neighbor.{Neighbor}}
use Rattle.plan_values.specs.declared.plan.Plan.{Plan}
use Rattle.plan_exports.specs.PlannedTables.{IsPlannedTable}

-- a bridge that was configured with this endpoint ID
abbrev pub bridge_of : ℕ → DeviceValue
bridge_of eid = record { kind = Bridge; eid = Some (record { eid = eid; giver = None }); wants = 0; pool = None }

-- the bytes of an answer: to the request for a handle, with the next handle and the entries
abbrev pub message_of : Exchange → List ℕ
message_of x = reply_bytes (asking 0 x.handle) (0 ∷ x.next ∷ length x.entries ∷ entries_bytes x.entries)

-- the device replies so to the request of the exchange, and is the same afterwards
abbrev pub GivesAnswer : DeviceValue → List EntryValue → Exchange → Type 0
GivesAnswer device table x = Replies device 0 table (asking 0 x.handle) (Some (message_of x)) device

-- the message is what the device answers with a part of its table, from this handle on
pub record IsAnswer (device : DeviceValue) (table : List EntryValue) (handle : ℕ) (message : List ℕ) : Type 0 where
  pub part : Exchange
  pub asked : part.handle ≡ handle
  pub told : IsTablePart table part
  pub given : GivesAnswer device table part
  pub bytes : message ≡ message_of part

-- The messages are the answers of the device to the requests of a whole reading of its table: the first request is for
-- handle 0, each further one for the handle that the answer before it gave, and the last answer gives none.
pub record AreAnswers (device : DeviceValue) (table : List EntryValue) (messages : List (List ℕ)) : Type 0 where
  pub exchanges : List Exchange
  pub reads : Reads table exchanges
  pub whole : due_after exchanges ≡ None
  pub given : All (GivesAnswer device table) exchanges
  pub bytes : messages ≡ map message_of exchanges

-- the entries that the rows of n give, in the order of their endpoint IDs
pub record AreEntriesOf (plan : Plan) (n : ℕ) (entries : List EntryValue) : Type 0 where
  pub table : List TableRow
  pub neighbors : List Neighbor
  pub planned : IsPlannedTable plan n table neighbors
  pub told : entries ≡ table_entries table neighbors

-- The messages are the answers of a bridge with this endpoint ID and the rows of n, which tell its whole table.
pub record AreEntryMessages (plan : Plan) (n eid : ℕ) (messages : List (List ℕ)) : Type 0 where
  pub entries : List EntryValue
  pub listed : AreEntriesOf plan n entries
  pub answered : AreAnswers (bridge_of eid) entries messages

-- a message in hex
abbrev pub hex_line : List ℕ → List ℕ
hex_line message = encode_lower message ++ codes "\n"

-- The text is those messages, each in a line.
pub record AreEntryLines (plan : Plan) (n eid : ℕ) (text : List ℕ) : Type 0 where
  pub messages : List (List ℕ)
  pub told : AreEntryMessages plan n eid messages
  pub lines : text ≡ flat_map hex_line messages
