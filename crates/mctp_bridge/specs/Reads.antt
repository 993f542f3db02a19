-- Reading a bridge's routing table: a list of requests and answers, instance IDs left aside.
use Rattle.std.{specs.Prelude.{◌≡◌, ◌⊎◌, ℕ, ◌+◌, ◌<◌, ◌≤◌, Bool, true, false, List, [], ◌∷◌, ◌++◌, length, take, drop, All, Option, Some, None, IsSomeAnd, option_map, Result, Ok}, specs.List.{flat_map, AllByRecursion}}
use Rattle.mctp_control.{specs.RouteEntries.{EntryValue, IsEntry}, specs.Devices.{DeviceValue}, specs.Replies.{IsMost, Replies, handle_after as next_handle}}
use Rattle.mctp_transport.specs.declared.device_kind.DeviceKind.TheVariants.{Bridge}
use Rattle.mctp_bridge.{specs.Readers.{ReaderState, handle_after, is_last, asking, Asks, Takes}, specs.declared.read_fault.ReadFault.{ReadFault}}

-- a request's handle, and the next handle and the entries of its answer
pub record Exchange : Type 0 where
  pub handle : ℕ
  pub next : ℕ
  pub entries : List EntryValue

-- at most 247 entries, each with an address of at most 8 bytes
pub record AreShort (table : List EntryValue) : Type 0 where
  pub few : length table ≤ 247
  pub short : All (λ entry. length entry.address ≤ 8) table

-- a table that a bridge can tell of
pub record IsTold (table : List EntryValue) : Type 0 where
  pub each : AllByRecursion IsEntry table
  pub are : AreShort table

-- A bridge of this table answers so: to handle 0 or that of an entry, with the entries from there on, as many as fit,
-- and with the handle of the entry after them, or 255 where there is none.
pub record IsTablePart (table : List EntryValue) (x : Exchange) : Type 0 where
  pub known : (x.handle ≡ 0) ⊎ (x.handle < length table)
  pub most : IsMost (drop x.handle table) (length x.entries)
  pub entries : x.entries ≡ take (length x.entries) (drop x.handle table)
  pub next : x.next ≡ next_handle table (x.handle + length x.entries)

-- each request asks for the handle that is due, first this one and then the one that the answer before
-- it gave, and each answer is the table's
abbrev pub ReadsFrom : List EntryValue → Option ℕ → List Exchange → Type 0
ReadsFrom table due [] = Unit {0}
ReadsFrom table due (x ∷ xs) = (due ≡ Some x.handle) × IsTablePart table x × ReadsFrom table (handle_after x.next) xs

-- requests and answers in order, from handle 0 on
abbrev pub Reads : List EntryValue → List Exchange → Type 0
Reads table xs = ReadsFrom table (Some 0) xs

abbrev pub due_from : Option ℕ → List Exchange → Option ℕ
due_from due [] = due
due_from due (x ∷ xs) = due_from (handle_after x.next) xs

-- the handle to be asked for next; none where the last answer had next handle 255
abbrev pub due_after : List Exchange → Option ℕ
due_after xs = due_from (Some 0) xs

-- the entries of all answers
abbrev pub collected : List Exchange → List EntryValue
collected xs = flat_map (λ x. x.entries) xs

-- With nothing more to ask for, these entries are the whole table. Else they are those before the handle to ask for,
-- which is the first of all or that of a further entry.
abbrev pub IsReadUpTo : List EntryValue → Option ℕ → List EntryValue → Type 0
IsReadUpTo table None entries = entries ≡ table
IsReadUpTo table (Some handle) entries = (entries ≡ take handle table) × ((handle ≡ 0) ⊎ (handle < length table))

-- What a reading has collected is a beginning of the table; once it is finished, it is the table.
abbrev pub EveryReadingCollects : Type 0
EveryReadingCollects = (table : List EntryValue) (xs : List Exchange)
    → IsTold table → Reads table xs → IsReadUpTo table (due_after xs) (collected xs)

-- the reader has what these exchanges brought
pub record HasReadUpTo (reader : ReaderState) (xs : List Exchange) : Type 0 where
  pub entries : reader.entries ≡ collected xs
  pub handle : reader.handle ≡ due_after xs
  pub goes : reader.failed ≡ false

-- A reader asks for what is due, and nothing else about it changes; once all is read it asks for nothing.
abbrev pub AsksWhatIsDue : Type 0
AsksWhatIsDue = (old new : ReaderState) (xs : List Exchange) (id : ℕ) (request : Option (List ℕ))
    → HasReadUpTo old xs → Asks old id request new
    → (request ≡ option_map (asking id) (due_after xs)) × HasReadUpTo new xs

-- The reader takes an answer without a fault, and tells it to be the last exactly where its next handle is 255. It then
-- stands for the reading with that answer, and where it was the last has the table.
pub record IsTaken (table : List EntryValue) (xs : List Exchange) (x : Exchange) (result : Result Bool ReadFault)
    (new : ReaderState) : Type 0 where
  pub told : result ≡ Ok (is_last x.next)
  pub reads : Reads table (xs ++ x ∷ [])
  pub stands : HasReadUpTo new (xs ++ x ∷ [])
  pub whole : is_last x.next ≡ true → new.entries ≡ table

-- the reader stands for these exchanges, and has asked under this instance ID for the entries from the handle that is
-- due
pub record HasAsked (reader : ReaderState) (xs : List Exchange) (id handle : ℕ) : Type 0 where
  pub stands : HasReadUpTo reader xs
  pub due : reader.handle ≡ Some handle
  pub waits : reader.waiting ≡ Some id
  pub small : id < 32

-- whatever the reader does with these bytes, it takes them as the next answer of a reading of the table
abbrev pub TakesAsAnswer : List EntryValue → List Exchange → ReaderState → List ℕ → Type 0
TakesAsAnswer table xs old bytes = (result : Result Bool ReadFault) (new : ReaderState)
    → Takes old bytes result new → (x : Exchange) × IsTaken table xs x result new

-- A bridge replies to each request of the reader, and the reader takes the reply.
abbrev pub EveryReplyIsTaken : Type 0
EveryReplyIsTaken =
    (d after : DeviceValue) (bus id handle : ℕ) (table : List EntryValue) (xs : List Exchange) (reader : ReaderState)
    (reply : Option (List ℕ)) → IsTold table → d.kind ≡ Bridge → Reads table xs → HasAsked reader xs id handle
    → Replies d bus table (asking id handle) reply after → IsSomeAnd reply (TakesAsAnswer table xs reader)
