-- What a device replies to a request, and what it holds afterwards (DSP0236, the commands of these names;
-- this project's own choice where the standard leaves one).
use Rattle.std.specs.Prelude.{◌≡◌, ◌≢◌, ◌⊎◌, ℕ, ◌+◌, ◌/◌, ◌%◌, ◌<◌, ◌≤◌, ◌==◌, if◌then◌else◌, List, [], ◌∷◌, length, take, drop, slice_index, Option, Some, None}
use Rattle.mctp_transport.{specs.PacketValues.{IsAssignable}, specs.declared.device_kind.DeviceKind.{DeviceKind}}
use Rattle.mctp_control.{specs.Ranges.{IsAssignableRange}, specs.RouteEntries.{EntryValue}, specs.EntryLists.{entries_bytes}, specs.Requests.{CommandValue, SetsEid, GetsEid, AllocatesEids, GetsEntries, RequestValue, SpellsRequest}, specs.Refusals.{IsUnknown, HasRequestLength}, specs.Devices.{DeviceValue, present_eid, present_size, present_first, MayGiveEid, MayGivePool, endpoint_type, allocation_of, pool_wanted}}
use Rattle.mctp_transport.specs.declared.device_kind.DeviceKind.TheVariants as kind

-- The device answers with this completion code and these bytes after it, and holds this afterwards.
abbrev pub Outcome : Type 0
Outcome = List ℕ × DeviceValue

-- the bytes are a request that wants a response: at least three, the first 0, Rq set, D clear
abbrev pub IsAsked : List ℕ → Type 0
IsAsked body = (3 ≤ length body) × (slice_index body 0 ≡ 0) × (slice_index body 1 / 64 ≡ 2)

-- Set and Get Endpoint ID are for every device, the other two for bridges
abbrev pub Supports : DeviceKind → ℕ → Type 0
Supports kind.Endpoint number = (number ≡ 1) ⊎ (number ≡ 2)
Supports kind.Bridge number = ¬ IsUnknown number

-- the reply repeats the instance ID and the command, with Rq, D and bit 5 clear
abbrev pub reply_bytes : List ℕ → List ℕ → List ℕ
reply_bytes body content = 0 ∷ slice_index body 1 % 32 ∷ slice_index body 2 ∷ content

-- Set Endpoint ID. Only the operations set (0) and force (1) and EIDs that can be assigned are taken up: set where
-- the bus may give the EID, force always. The answer has the status, the EID held afterwards, the pool wanted.
pub record SetReplies (d : DeviceValue) (bus operation eid : ℕ) (content : List ℕ) (new : DeviceValue) : Type 0 where
  pub invalid : (2 ≤ operation) ⊎ (¬ IsAssignable eid) → (content ≡ 2 ∷ []) × (new ≡ d)
  pub accepted : IsAssignable eid → ((operation ≡ 0) × MayGiveEid d.eid bus) ⊎ (operation ≡ 1)
      → (content ≡ 0 ∷ allocation_of (pool_wanted d.kind d.wants) d.pool ∷ eid ∷ pool_wanted d.kind d.wants ∷ [])
      × (new ≡ record d { eid = Some (record { eid = eid; giver = Some bus }) })
  pub rejected : IsAssignable eid → operation ≡ 0 → ¬ MayGiveEid d.eid bus
      → (content
      ≡ 0 ∷ (16 + allocation_of (pool_wanted d.kind d.wants) d.pool) ∷ present_eid d.eid
      ∷ pool_wanted d.kind d.wants ∷ []) × (new ≡ d)

-- Get Endpoint ID: the EID or 0, what the device is, and a byte 0 for the medium.
pub record GetReplies (d : DeviceValue) (content : List ℕ) (new : DeviceValue) : Type 0 where
  pub told : content ≡ 0 ∷ present_eid d.eid ∷ endpoint_type d.kind ∷ 0 ∷ []
  pub same : new ≡ d

-- Allocate Endpoint IDs. Get information (2) tells the present pool. Allocate (0) and force (1) take up ranges
-- inside 8 to 254: allocate where the bus may give the pool, force always. The answer has the status and the pool
-- held afterwards.
pub record AllocateReplies (d : DeviceValue) (bus operation size first : ℕ) (content : List ℕ)
    (new : DeviceValue) : Type 0 where
  pub reserved : 3 ≤ operation → (content ≡ 2 ∷ []) × (new ≡ d)
  pub information : operation ≡ 2 → (content ≡ 0 ∷ 0 ∷ present_size d.pool ∷ present_first d.pool ∷ []) × (new ≡ d)
  pub invalid : operation < 2 → ¬ IsAssignableRange first size → (content ≡ 2 ∷ []) × (new ≡ d)
  pub accepted : IsAssignableRange first size → ((operation ≡ 0) × MayGivePool d.pool bus) ⊎ (operation ≡ 1)
      → (content ≡ 0 ∷ 0 ∷ size ∷ first ∷ [])
      × (new ≡ record d { pool = Some (record { first = first; size = size; giver = Some bus }) })
  pub rejected : IsAssignableRange first size → operation ≡ 0 → ¬ MayGivePool d.pool bus
      → (content ≡ 0 ∷ 1 ∷ present_size d.pool ∷ present_first d.pool ∷ []) × (new ≡ d)

-- So many entries fit 58 bytes, and no more do.
pub record IsMost (entries : List EntryValue) (count : ℕ) : Type 0 where
  pub there : count ≤ length entries
  pub fit : length (entries_bytes (take count entries)) ≤ 58
  pub most : count < length entries → 58 < length (entries_bytes (take (count + 1) entries))

-- the index after the entries, 0xFF where there are no more
abbrev pub handle_after : List EntryValue → ℕ → ℕ
handle_after table index = if index == length table then 255 else index

-- Get Routing Table Entries: the entries from the handle on, as many as fit. A handle is 0 or an entry's index.
pub record EntriesReplies (table : List EntryValue) (handle : ℕ) (content : List ℕ) : Type 0 where
  pub invalid : handle ≢ 0 → length table ≤ handle → content ≡ 2 ∷ []
  pub told : (handle ≡ 0) ⊎ (handle < length table) → (count : ℕ) × IsMost (drop handle table) count
      × (content ≡ 0 ∷ handle_after table (handle + count) ∷ count ∷ entries_bytes (take count (drop handle table)))

-- what a command that the device supports is answered by
abbrev pub CommandReplies : DeviceValue → ℕ → List EntryValue → CommandValue → List ℕ → DeviceValue → Type 0
CommandReplies d bus table (SetsEid operation reserved eid) content new = SetReplies d bus operation eid content new
CommandReplies d bus table GetsEid content new = GetReplies d content new
CommandReplies d bus table (AllocatesEids operation reserved size first) content new =
    AllocateReplies d bus operation size first content new
CommandReplies d bus table (GetsEntries handle) content new = EntriesReplies table handle content × (new ≡ d)

-- The device replies to the body that comes over the bus, with this routing table, and is new afterwards: not at all
-- to what asks for no response; with code 5 to a command that it doesn't support; with code 3 to a wrong length; else
-- as the request's command asks for.
pub record Replies (d : DeviceValue) (bus : ℕ) (table : List EntryValue) (body : List ℕ) (reply : Option (List ℕ))
    (new : DeviceValue) : Type 0 where
  pub silent : ¬ IsAsked body → (reply ≡ None) × (new ≡ d)
  pub unsupported : IsAsked body → ¬ Supports d.kind (slice_index body 2)
      → (reply ≡ Some (reply_bytes body (5 ∷ []))) × (new ≡ d)
  pub wrong_length : IsAsked body → Supports d.kind (slice_index body 2) → ¬ HasRequestLength body
      → (reply ≡ Some (reply_bytes body (3 ∷ []))) × (new ≡ d)
  pub answered : (r : RequestValue) → IsAsked body → Supports d.kind (slice_index body 2) → SpellsRequest r body
      → (content : List ℕ) × (reply ≡ Some (reply_bytes body content))
      × CommandReplies d bus table r.command content new

-- each is a byte
abbrev pub IsBytes : List ℕ → Type 0
IsBytes body = (i : ℕ) → slice_index body i < 256

-- A device has one reply to a body at most, and is one device afterwards.
abbrev pub HasOneReply : DeviceValue → ℕ → List EntryValue → List ℕ → Type 0
HasOneReply d bus table body =
    (reply other : Option (List ℕ)) (new later : DeviceValue) → Replies d bus table body reply new
    → Replies d bus table body other later → (reply ≡ other) × (new ≡ later)
