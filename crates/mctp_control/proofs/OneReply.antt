-- Two replies of one device to one body are the same.
use Rattle.std.{proofs.Common.{◌≡◌, ◌⊎◌, ℕ, zero, suc, ◌+◌, ◌<◌, ◌≤◌, Option, Some, slice_index, List, [], ◌∷◌, length, take, drop, inl, inr, sym, ◌∙◌, ap, length-append, arith}, proofs.Math.Decide.{dec_le, dec_lt}}
use Rattle.mctp_transport.specs.PacketValues.{IsAssignable}
use Rattle.mctp_control.{specs.Ranges.{IsAssignableRange}, specs.RouteEntries.{EntryValue, entry_bytes}, specs.EntryLists.{entries_bytes}, specs.Requests.{CommandValue, SetsEid, GetsEid, AllocatesEids, GetsEntries}, specs.Devices.{DeviceValue, MayGiveEid, MayGivePool}, specs.Replies.{SetReplies, AllocateReplies, IsMost, handle_after, EntriesReplies, CommandReplies, IsAsked, IsBytes, HasOneReply, Supports, reply_bytes}, specs.Refusals.{HasRequestLength}, proofs.Asked.{dec_asked, dec_length, request_of}, proofs.Deciding.{dec_both, dec_same, dec_assignable, dec_may_eid, dec_may_pool, dec_supports, supported_is_known}}

-- the same content, and the same device afterwards
pub record SameReply (c e : List ℕ) (m n : DeviceValue) : Type 0 where
  pub content : c ≡ e
  pub device : m ≡ n

-- what two replies are both said to be
both : {c e a : List ℕ} {m n b : DeviceValue} → (c ≡ a) × (m ≡ b) → (e ≡ a) × (n ≡ b) → SameReply c e m n
both p q = record { content = p.0 ∙ sym q.0; device = p.1 ∙ sym q.1 }

module _ (d : DeviceValue) (bus : ℕ) (c e : List ℕ) (m n : DeviceValue) where
  one_set : (operation eid : ℕ) → SetReplies d bus operation eid c m → SetReplies d bus operation eid e n → SameReply c e m n
  one_set operation eid p q = by (dec_le 2 operation) (dec_assignable eid) (dec_le 1 operation) (dec_may_eid d.eid bus)
    where
      by : Dec (2 ≤ operation) → Dec (IsAssignable eid) → Dec (1 ≤ operation) → Dec (MayGiveEid d.eid bus) → SameReply c e m n
      by (yes a) x y z = both (p.invalid (inl a)) (q.invalid (inl a))
      by (no a) (no x) y z = both (p.invalid (inr x)) (q.invalid (inr x))
      by (no a) (yes x) (yes y) z = let o : operation ≡ 1 = omega arith in both (p.accepted x (inr o)) (q.accepted x (inr o))
      by (no a) (yes x) (no y) (yes z) = let o : operation ≡ 0 = omega arith in both (p.accepted x (inl (o, z))) (q.accepted x (inl (o, z)))
      by (no a) (yes x) (no y) (no z) = let o : operation ≡ 0 = omega arith in both (p.rejected x o z) (q.rejected x o z)

  one_allocate : (operation size first : ℕ) → AllocateReplies d bus operation size first c m → AllocateReplies d bus operation size first e n
      → SameReply c e m n
  one_allocate operation size first p q =
      by (dec_le 3 operation) (dec_le 2 operation) (dec_both (dec_lt 0 size) (dec_both (dec_le 8 first) (dec_le (first + size) 255)))
      (dec_le 1 operation) (dec_may_pool d.pool bus)
    where
      by : Dec (3 ≤ operation) → Dec (2 ≤ operation) → Dec ((0 < size) × ((8 ≤ first) × (first + size ≤ 255))) → Dec (1 ≤ operation)
          → Dec (MayGivePool d.pool bus) → SameReply c e m n
      by (yes a) b x y z = both (p.reserved a) (q.reserved a)
      by (no a) (yes b) x y z = let o : operation ≡ 2 = omega arith in both (p.information o) (q.information o)
      by (no a) (no b) (no x) y z =
          let o : operation < 2 = omega arith in
          let w : ¬ IsAssignableRange first size = λ h. x (h.0, (h.1, h.2)) in
          both (p.invalid o w) (q.invalid o w)
      by (no a) (no b) (yes x) (yes y) z =
          let o : operation ≡ 1 = omega arith in
          let w : IsAssignableRange first size = (x.0, x.1.0, x.1.1) in
          both (p.accepted w (inr o)) (q.accepted w (inr o))
      by (no a) (no b) (yes x) (no y) (yes z) =
          let o : operation ≡ 0 = omega arith in
          let w : IsAssignableRange first size = (x.0, x.1.0, x.1.1) in
          both (p.accepted w (inl (o, z))) (q.accepted w (inl (o, z)))
      by (no a) (no b) (yes x) (no y) (no z) =
          let o : operation ≡ 0 = omega arith in
          let w : IsAssignableRange first size = (x.0, x.1.0, x.1.1) in
          both (p.rejected w o z) (q.rejected w o z)

-- more entries have no fewer bytes
bytes_rise : (es : List EntryValue) (i j : ℕ) → i ≤ j → length (entries_bytes (take i es)) ≤ length (entries_bytes (take j es))
bytes_rise [] zero j h = omega arith
bytes_rise [] (suc i) zero h = absurd (omega arith)
bytes_rise [] (suc i) (suc j) h = omega arith
bytes_rise (x ∷ es) zero j h = omega arith
bytes_rise (x ∷ es) (suc i) zero h = absurd (omega arith)
bytes_rise (x ∷ es) (suc i) (suc j) h =
    rw (length-append (entry_bytes x) (entries_bytes (take i es)), length-append (entry_bytes x) (entries_bytes (take j es)))
    (omega (arith, bytes_rise es i j (omega arith)))

-- no fewer than the most that fit
not_less : (es : List EntryValue) (i j : ℕ) → IsMost es i → IsMost es j → i < j → ⊥
not_less es i j p q l =
    let above = p.most (omega (arith, q.there)) in
    let rise = bytes_rise es (i + 1) j (omega arith) in
    omega (arith, above, rise, q.fit)

one_most : (es : List EntryValue) (i j : ℕ) → IsMost es i → IsMost es j → i ≡ j
one_most es i j p q = by (dec_lt i j) (dec_lt j i)
  where
    by : Dec (i < j) → Dec (j < i) → i ≡ j
    by (yes a) b = absurd (not_less es i j p q a)
    by (no a) (yes b) = absurd (not_less es j i q p b)
    by (no a) (no b) = omega arith

one_told : (table : List EntryValue) (handle : ℕ) (c e : List ℕ) → EntriesReplies table handle c → EntriesReplies table handle e → c ≡ e
one_told table handle c e p q = by (dec_same handle 0) (dec_lt handle (length table))
  where
    told : (handle ≡ 0) ⊎ (handle < length table) → c ≡ e
    told at =
        let a = p.told at in
        let b = q.told at in
        let k = one_most (drop handle table) a.0 b.0 a.1 b.1 in
        a.2 ∙ ap (λ i. 0 ∷ handle_after table (handle + i) ∷ i ∷ entries_bytes (take i (drop handle table))) k ∙ sym b.2

    by : Dec (handle ≡ 0) → Dec (handle < length table) → c ≡ e
    by (yes a) b = told (inl a)
    by (no a) (yes b) = told (inr b)
    by (no a) (no b) = p.invalid a (omega arith) ∙ sym (q.invalid a (omega arith))

pub one_answer : (d : DeviceValue) (bus : ℕ) (table : List EntryValue) (command : CommandValue) (c e : List ℕ) (m n : DeviceValue)
    → CommandReplies d bus table command c m → CommandReplies d bus table command e n → SameReply c e m n
one_answer d bus table (SetsEid operation reserved eid) c e m n p q = one_set d bus c e m n operation eid p q
one_answer d bus table GetsEid c e m n p q = record { content = p.told ∙ sym q.told; device = p.same ∙ sym q.same }
one_answer d bus table (AllocatesEids operation reserved size first) c e m n p q = one_allocate d bus c e m n operation size first p q
one_answer d bus table (GetsEntries handle) c e m n p q = record { content = one_told table handle c e p.0 q.0; device = p.1 ∙ sym q.1 }

-- the same reply, or none, and the same device afterwards
replied : {r s a : Option (List ℕ)} {m n b : DeviceValue} → (r ≡ a) × (m ≡ b) → (s ≡ a) × (n ≡ b) → (r ≡ s) × (m ≡ n)
replied p q = (p.0 ∙ sym q.0, p.1 ∙ sym q.1)

pub one_reply : (d : DeviceValue) (bus : ℕ) (table : List EntryValue) (body : List ℕ) → IsBytes body → HasOneReply d bus table body
one_reply d bus table body b reply other new later p q =
    by (dec_asked body) (dec_supports d.kind (slice_index body 2)) (dec_length body)
  where
    by : Dec (IsAsked body) → Dec (Supports d.kind (slice_index body 2)) → Dec (HasRequestLength body) → (reply ≡ other) × (new ≡ later)
    by (no a) s l = replied (p.silent a) (q.silent a)
    by (yes a) (no s) l = replied (p.unsupported a s) (q.unsupported a s)
    by (yes a) (yes s) (no l) = replied (p.wrong_length a s l) (q.wrong_length a s l)
    by (yes a) (yes s) (yes l) =
        let r = request_of body b a (supported_is_known d.kind _ s) l in
        let x = p.answered r.0 a s r.1 in
        let y = q.answered r.0 a s r.1 in
        let w = one_answer d bus table r.0.command x.0 y.0 new later x.2 y.2 in
        (x.1 ∙ ap (λ c. Some (reply_bytes body c)) w.content ∙ sym y.1, w.device)
