-- What a bridge replies to a reader's request.
use Rattle.std.{proofs.Common.{◌≡◌, ℕ, ◌+◌, ◌%◌, ◌<◌, ◌≤◌, false, List, ◌∷◌, length, take, drop, Option, refl, sym, ap, subst, ◌∙◌, inl, inr, arith}, specs.Prelude.{◌⊎◌, IsSomeAnd}, specs.List.{AllByRecursion}, proofs.lemmas.Bool.{cases_lt}, proofs.lemmas.List.{length-take-le}, proofs.lemmas.List.Elements.{All-from_recursion, recursion_from_All, All-take, All-drop}}
use Rattle.mctp_control.{specs.Headers.{HeaderValue}, specs.RouteEntries.{EntryValue, IsEntry}, specs.EntryLists.{entries_bytes}, specs.Requests.{RequestValue, GetsEntries, SpellsRequest}, specs.Devices.{DeviceValue}, specs.Replies.{IsAsked, Supports, Replies, IsMost, reply_bytes, handle_after as next_handle}}
use Rattle.mctp_transport.{specs.declared.device_kind.DeviceKind.{DeviceKind}, specs.declared.device_kind.DeviceKind.TheVariants.{Bridge}}
use Rattle.mctp_bridge.{specs.Parts.{Tells}, specs.Readers.{ReaderState, asking}, specs.Reads.{Exchange, AreShort, IsTold, IsTablePart, Reads, HasAsked, TakesAsAnswer, IsReadUpTo, collected}, proofs.Readings.{reading_collects, next_before, next_last, ends_within}, proofs.ReaderLaws.{answer_taken}}

-- the header of the request, and that of its reply
abbrev pub header : ℕ → HeaderValue
header id = record { datagram = false; reserved = false; instance = id }

abbrev pub request : ℕ → ℕ → RequestValue
request id handle = record { header = header id; command = GetsEntries handle }

-- a bridge tells its table
pub tells_table : (kind : DeviceKind) → kind ≡ Bridge → Supports kind 10
tells_table kind bridge =
    let K : DeviceKind → Type 0 = λ kind. Supports kind 10 in
    subst K (sym bridge) (λ unknown. unknown.3 refl)

module _ (table : List EntryValue) (are : AreShort table) (id handle : ℕ) (small : id < 32) (known : (handle ≡ 0) ⊎ (handle < length table)) where
  handle_small : handle < 256
  handle_small = let few = are.few in elim known [ inl first ↦ omega arith | inr within ↦ omega arith ]

  pub asks : IsAsked (asking id handle)
  asks = (omega arith, refl, omega arith)

  pub spells : SpellsRequest (request id handle) (asking id handle)
  spells = (record { instance = small; command = handle_small }, refl)

  next_small : (i : ℕ) → i ≤ length table → next_handle table i < 256
  next_small i le =
      let few = are.few in
      elim (cases_lt i (length table)) [
        | inl lt ↦ rw (next_before table i lt) (omega arith)
        | inr ge ↦ rw (next_last table i le ge) (omega arith)
      ]

  -- the exchange that a reply of so many entries makes
  abbrev pub exchange : ℕ → Exchange
  exchange count = record { handle = handle; next = next_handle table (handle + count); entries = take count (drop handle table) }

  pub part_of : (count : ℕ) → IsMost (drop handle table) count → IsTablePart table (exchange count)
  part_of count most =
      let long = length-take-le count (drop handle table) most.there in
      record {
        known = known;
        most = subst (IsMost (drop handle table)) (sym long) most;
        entries = ap (λ n. take n (drop handle table)) (sym long);
        next = ap (λ n. next_handle table (handle + n)) (sym long);
      }

  tells_of : AllByRecursion IsEntry table → (count : ℕ) → IsMost (drop handle table) count
      → Tells (header id) (exchange count).next (exchange count).entries
      (reply_bytes (asking id handle) (0 ∷ next_handle table (handle + count) ∷ count ∷ entries_bytes (take count (drop handle table))))
  tells_of are_entries count most =
      let long = length-take-le count (drop handle table) most.there in
      let entries = take count (drop handle table) in
      let each = recursion_from_All IsEntry entries (All-take IsEntry count (drop handle table) (All-drop IsEntry handle table (All-from_recursion IsEntry table are_entries))) in
      let within = ends_within table are (exchange count) (part_of count most) in
      let end : handle + count ≤ length table = rw long at within in
      let low : (128 + id) % 32 ≡ 0 + id = omega arith in (
        record { instance = small; answer = (next_small (handle + count) end, each, most.fit) },
        λ i. 0 ∷ low i ∷ 10 ∷ 0 ∷ next_handle table (handle + count) ∷ (sym long) i ∷ entries_bytes entries,
      )

-- the reader takes what the bridge replies to its request
pub reply_taken : (d after : DeviceValue) (bus id handle : ℕ) (table : List EntryValue) (xs : List Exchange) (reader : ReaderState) (reply : Option (List ℕ))
    → IsTold table → d.kind ≡ Bridge → Reads table xs → HasAsked reader xs id handle → Replies d bus table (asking id handle) reply after
    → IsSomeAnd reply (TakesAsAnswer table xs reader)
reply_taken d after bus id handle table xs reader reply told bridge reads asked replies =
    let P : Option ℕ → Type 0 = λ due. IsReadUpTo table due (collected xs) in
    let known = (subst P (sym asked.stands.handle ∙ asked.due) (reading_collects table told.are xs reads)).1 in
    let body = asking id handle in
    let answered = replies.answered (request id handle) (asks table told.are id handle asked.small known) (tells_table d.kind bridge)
    (spells table told.are id handle asked.small known) in
    let brought = answered.2.0.told known in
    let count = brought.0 in
    let x = exchange table told.are id handle asked.small known count in
    let T : List ℕ → Type 0 = λ content. Tells (header id) x.next x.entries (reply_bytes body content) in
    let tells = subst T (sym brought.2) (tells_of table told.are id handle asked.small known told.each count brought.1) in
    let part = part_of table told.are id handle asked.small known count brought.1 in
    let A : Option (List ℕ) → Type 0 = λ reply. IsSomeAnd reply (TakesAsAnswer table xs reader) in
    subst A (sym answered.1) (λ result new takes. (
      x,
      answer_taken table told xs x reads part reader asked.stands asked.due (header id) (reply_bytes body answered.0) result new tells asked.waits takes,
    ))
