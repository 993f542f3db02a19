-- A bridge that is asked for its table tells all of it, in as many answers as it takes.
use Rattle.std.{proofs.Common.{◌≡◌, ℕ, ◌+◌, ◌-◌, ◌<◌, List, [], ◌∷◌, ◌++◌, length, slice_index, map, drop, Option, None, Some, refl, sym, ap, subst, ◌∙◌, inl, inr, arith}, specs.Prelude.{◌⊎◌, All}, proofs.lemmas.Bool.{cases_lt}, proofs.lemmas.List.{length-take-le, map-append}, proofs.lemmas.List.Elements.{All-push}}
use Rattle.mctp_transport.specs.declared.device_kind.DeviceKind.TheVariants.{Bridge}
use Rattle.mctp_control.{specs.RouteEntries.{EntryValue}, specs.EntryLists.{entries_bytes}, specs.Devices.{DeviceValue}, specs.Replies.{Replies, reply_bytes}}
use Rattle.mctp_bridge.{specs.Readers.{asking, handle_after}, specs.Reads.{Exchange, AreShort, IsTablePart, Reads, due_after}, proofs.Readings.{goes_on, next_before, next_last, some_entry, ends_within, due_pushed, reads_pushed}, proofs.Replying.{request, tells_table, asks, spells, exchange, part_of}}
use Rattle.plan_exports.specs.TableAnswers.{message_of, GivesAnswer, IsAnswer}

abbrev pub IsKnown : List EntryValue → ℕ → Type 0
IsKnown table handle = (handle ≡ 0) ⊎ (handle < length table)

-- how much is left to ask for
abbrev pub left_of : List EntryValue → Option ℕ → ℕ
left_of table None = 0
left_of table (Some handle) = length table - handle + 1

-- what is due is nothing, or the first handle or that of an entry
abbrev pub IsDue : List EntryValue → Option ℕ → Type 0
IsDue table None = Unit {0}
IsDue table (Some handle) = IsKnown table handle

-- what is due after an answer is nothing, or the handle of a later entry
abbrev pub IsLater : List EntryValue → ℕ → Option ℕ → Type 0
IsLater table handle None = Unit {0}
IsLater table handle (Some next) = (next < length table) × (left_of table (Some next) < left_of table (Some handle))

module _ (table : List EntryValue) (are : AreShort table) where
  pub later : (x : Exchange) → IsTablePart table x → IsLater table x.handle (handle_after x.next)
  later x part =
      let end : ℕ = x.handle + length x.entries in
      elim (cases_lt end (length table)) [
        | inl lt ↦
            (let few = are.few in
            let some = some_entry table are x part (omega arith) in
            let due : handle_after x.next ≡ Some end = ap handle_after (part.next ∙ next_before table end lt) ∙ goes_on end (omega arith) in
            subst (IsLater table x.handle) (sym due) (lt, omega arith))
        | inr ge ↦
            (let due : handle_after x.next ≡ None = ap handle_after (part.next ∙ next_last table end (ends_within table are x part) ge) in
            subst (IsLater table x.handle) (sym due) tt)
      ]

module _ (table : List EntryValue) (are : AreShort table) (device : DeviceValue) (bridge : device.kind ≡ Bridge) (handle : ℕ) (known : IsKnown table handle) where
  small : 0 < 32
  small = omega arith

  -- what a bridge replies to the request is an answer with a part of its table
  pub is_answer : (reply : Option (List ℕ)) (after : DeviceValue) → Replies device 0 table (asking 0 handle) reply after
      → (message : List ℕ) × (reply ≡ Some message) × IsAnswer device table handle message × (after ≡ device)
  is_answer reply after replies =
      let answered = replies.answered (request 0 handle) (asks table are 0 handle small known) (tells_table device.kind bridge)
      (spells table are 0 handle small known) in
      let told = answered.2.0.told known in
      let count = told.0 in
      let x = exchange table are 0 handle small known count in
      let part = part_of table are 0 handle small known count told.1 in
      let long = length-take-le count (drop handle table) told.1.there in
      let content : answered.0 ≡ 0 ∷ x.next ∷ length x.entries ∷ entries_bytes x.entries = told.2 ∙ ap (λ n. 0 ∷ x.next ∷ n ∷ entries_bytes x.entries) (sym long) in
      let is : reply ≡ Some (message_of x) = answered.1 ∙ ap (λ c. Some (reply_bytes (asking 0 handle) c)) content in
      let same : after ≡ device = answered.2.1 in (
        message_of x,
        is,
        record {
          part = x;
          asked = refl;
          told = part;
          given = subst (λ d. Replies device 0 table (asking 0 handle) (Some (message_of x)) d) same
              (subst (λ r. Replies device 0 table (asking 0 handle) r after) is replies);
          bytes = refl;
        },
        same,
      )

-- the messages so far are answers to a reading, after which this handle is due
pub record HasAnswered (device : DeviceValue) (table : List EntryValue) (due : Option ℕ) (messages : List (List ℕ)) : Type 0 where
  pub exchanges : List Exchange
  pub reads : Reads table exchanges
  pub due_is : due_after exchanges ≡ due
  pub given : All (GivesAnswer device table) exchanges
  pub bytes : messages ≡ map message_of exchanges

pub more_answered : (device : DeviceValue) (table : List EntryValue) (handle : ℕ) (messages : List (List ℕ)) (message : List ℕ)
    → HasAnswered device table (Some handle) messages → (a : IsAnswer device table handle message)
    → HasAnswered device table (handle_after a.part.next) (messages ++ message ∷ [])
more_answered device table handle messages message before a =
    let due = before.due_is ∙ ap Some (sym a.asked) in
    record {
      exchanges = before.exchanges ++ a.part ∷ [];
      reads = reads_pushed table (Some 0) before.exchanges a.part before.reads due a.told;
      due_is = due_pushed (Some 0) before.exchanges a.part;
      given = All-push (GivesAnswer device table) before.exchanges a.part before.given a.given;
      bytes = ap (λ ms. ms ++ message ∷ []) before.bytes ∙ ap (λ m. map message_of before.exchanges ++ m ∷ []) a.bytes ∙ sym (map-append message_of before.exchanges (a.part ∷ []));
    }

-- the next handle of an answer stands at its fifth byte
pub next_at : (device : DeviceValue) (table : List EntryValue) (handle : ℕ) (message : List ℕ) → (a : IsAnswer device table handle message)
    → (4 < length message) × (slice_index message 4 ≡ a.part.next)
next_at device table handle message a =
    (rw a.bytes (omega arith), ap (λ m. slice_index m 4) a.bytes)

pub same_some : (xs ys : List ℕ) → Some xs ≡ Some ys → xs ≡ ys
same_some xs ys e = cc

goes_down : (table : List EntryValue) (handle : ℕ) (due : Option ℕ) → IsLater table handle due → (left_of table due < left_of table (Some handle)) × IsDue table due
goes_down table handle None is = (omega arith, tt)
goes_down table handle (Some next) is = (is.1, inr is.0)

-- what is due after an answer comes later in the table
pub next_due : (device : DeviceValue) (table : List EntryValue) → AreShort table → (handle : ℕ) (message : List ℕ) → (a : IsAnswer device table handle message)
    → (due : Option ℕ) → due ≡ handle_after (slice_index message 4)
    → (left_of table due < left_of table (Some handle)) × IsDue table due × (due ≡ handle_after a.part.next)
next_due device table are handle message a due is =
    let same : due ≡ handle_after a.part.next = is ∙ ap handle_after (next_at device table handle message a).1 in
    let down = goes_down table a.part.handle due (subst (IsLater table a.part.handle) (sym same) (later table are a.part a.told)) in
    (subst (λ h. left_of table due < left_of table (Some h)) a.asked down.0, down.1, same)
