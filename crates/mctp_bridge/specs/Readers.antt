-- An entry reader is fed the answers to its requests, one by one.
use Rattle.std.specs.Prelude.{◌≡◌, ◌≢◌, ℕ, ◌+◌, ◌<◌, Bool, true, false, List, [], ◌++◌, length, map, Option, Some, None, option_map, Result, Ok, Err, MatchOption, ◌==◌, if◌then◌else◌, vec_capacity}
use Rattle.mctp_transport.specs.First.{First}
use Rattle.mctp_control.{specs.Headers.{HeaderValue}, specs.RouteEntries.{EntryValue, entry_value}, specs.Requests.{request_bytes, GetsEntries}}
use Rattle.mctp_bridge.{specs.Parts.{Tells, TellsNothing}, specs.declared.entry_reader.EntryReader.{EntryReader}, specs.declared.read_fault.ReadFault.{ReadFault}, specs.declared.read_fault.ReadFault.TheVariants.{NoSuccess, NotAsked, NoEntry, TooMany, FailedBefore}}

-- What a reader holds: the entries that it took, the handle that it asks for next (none once the table is complete),
-- the instance ID of its request without an answer, whether it has failed, and how many answers it has taken.
pub record ReaderState : Type 0 where
  pub entries : List EntryValue
  pub handle : Option ℕ
  pub waiting : Option ℕ
  pub failed : Bool
  pub taken : ℕ

abbrev pub reader_state : EntryReader → ReaderState
reader_state r = record {
  entries = map entry_value r.entries.items;
  handle = r.handle;
  waiting = option_map (λ id. id.value) r.waiting;
  failed = r.failed;
  taken = r.taken;
}

-- for how many entries the reader has memory
abbrev pub reader_memory : EntryReader → ℕ
reader_memory r = vec_capacity r.entries

-- nothing was asked yet, and the first handle is 0
abbrev pub new_reader : ReaderState
new_reader = record { entries = []; handle = Some 0; waiting = None; failed = false; taken = 0 }

-- the bytes of a request for the entries from a handle on, under an instance ID
abbrev pub asking : (id handle : ℕ) → List ℕ
asking id handle =
    let header : HeaderValue = record { datagram = false; reserved = false; instance = id } in
    request_bytes (record { header = header; command = GetsEntries handle })

-- no request, and nothing has changed
abbrev pub AsksNothing : ReaderState → Option (List ℕ) → ReaderState → Type 0
AsksNothing old request new = (request ≡ None) × (new ≡ old)

-- the next request: none once the reader has failed or its table is complete, else the one for
-- its handle, which is then outstanding
abbrev pub Asks : ReaderState → ℕ → Option (List ℕ) → ReaderState → Type 0
Asks old id request new =
    First (old.failed ≡ true) (AsksNothing old request new)
    (MatchOption old.handle (AsksNothing old request new)
    (λ handle. (request ≡ Some (asking id handle)) × (new ≡ record old { waiting = Some id })))

-- the answer is refused, and nothing has changed
abbrev pub Ignores : ReaderState → ReadFault → Result Bool ReadFault → ReaderState → Type 0
Ignores old fault result new = (result ≡ Err fault) × (new ≡ old)

-- the answer counts as taken and is refused, and the reader has failed
abbrev pub Fails : ReaderState → ReadFault → Result Bool ReadFault → ReaderState → Type 0
Fails old fault result new = (result ≡ Err fault) × (new ≡ record old { failed = true; taken = old.taken + 1 })

-- the next handle says that there are no more entries
abbrev pub is_last : ℕ → Bool
is_last next = next == 255

-- the handle to ask for after an answer with this next handle
abbrev pub handle_after : ℕ → Option ℕ
handle_after next = if is_last next then None else Some next

-- the answer counts as taken, its entries are added, and the reader goes on with the next handle
abbrev pub state_after : ReaderState → ℕ → List EntryValue → ReaderState
state_after old next entries =
    record old { entries = old.entries ++ entries; handle = handle_after next; waiting = None; taken = old.taken + 1 }

-- What is done with the answer to the reader's request, in the order of the tests: no entry although more are
-- announced, too many entries; else it is taken, and tells whether it was the last.
abbrev pub TakesPart : ReaderState → (next : ℕ) → List EntryValue → Result Bool ReadFault → ReaderState → Type 0
TakesPart old next entries result new =
    First ((entries ≡ []) × (next ≢ 255)) (Fails old NoEntry result new)
    (First (247 < length old.entries + length entries) (Fails old TooMany result new)
    ((result ≡ Ok (is_last next)) × (new ≡ state_after old next entries)))

-- what is done with a success answer of this instance ID: it is ignored if that isn't the request's
abbrev pub TakesAnswer : ReaderState → (id next : ℕ) → List EntryValue → Result Bool ReadFault → ReaderState → Type 0
TakesAnswer old id next entries result new =
    First (old.waiting ≢ Some id) (Ignores old NotAsked result new) (TakesPart old next entries result new)

-- What is done with bytes, in the order of the tests: failed before, nothing asked, no success answer; then by the
-- answer.
abbrev pub Takes : ReaderState → List ℕ → Result Bool ReadFault → ReaderState → Type 0
Takes old bytes result new =
    First (old.failed ≡ true) (Ignores old FailedBefore result new)
    (First (old.waiting ≡ None) (Ignores old NotAsked result new)
    (First (TellsNothing bytes) (Fails old NoSuccess result new)
    ((header : HeaderValue) × (next : ℕ) × (entries : List EntryValue) × Tells header next entries bytes
    × TakesAnswer old header.instance next entries result new)))
