-- Tables without a key, and with it in a slot that was free: what they stand for, and how many other keys are open.
use Rattle.std.{proofs.Common.{◌≡◌, ◌≢◌, ℕ, true, false, length, slice_get, set, position, Option, Some, None, is_none, refl, sym, ap, ◌∙◌, arith, inl, inr, subst}, proofs.lemmas.Bool.{false≢true, true≢false, cases_eq}, proofs.lemmas.Option.{same_Some, none-some, slice_get_within}, proofs.lemmas.List.{length-set}}
use Rattle.mctp_transport.{specs.PacketValues.{KeyValue}, specs.Histories.{Input, History, after, same_key, key_of_input, ArePackets, FewerThan, AsManyAs, IsOpen, IsOtherOpen}, specs.Tables.{Partial, Holds, HoldsLast, TableStandsFor, Table, is_at}, specs.TableChanges.{ended}, proofs.FirstIndexes.{key_cases, same_key-same}, proofs.LastStarts.{last-other}, proofs.Openness.{open_other}, proofs.Slots.{Among, get_set_same, get_set_other, position-none, position-some, no_more, held_keys, keys_fewer, keys_all, keys_among, keys_have, keys_apart}}

-- u is the table without the key
pub record Cleared (key : KeyValue) (t u : Table) : Type 0 where
  pub kept : (j : ℕ) (q : Partial) → q.key ≢ key → Holds t j q → Holds u j q
  pub only : (j : ℕ) (q : Partial) → Holds u j q → Holds t j q × (q.key ≢ key)
  pub long : length u ≡ length t

same_held : (t : Table) (i : ℕ) (q r : Partial) → Holds t i q → Holds t i r → q ≡ r
same_held t i q r a b = same_Some q r (same_Some (Some q) (Some r) (sym a ∙ b))

not_held : (t : Table) (i : ℕ) (q : Partial) → slice_get t i ≡ Some None → Holds t i q → ⊥
not_held t i q a b = none-some q (same_Some None (Some q) (sym a ∙ b))

pub found_key : (key : KeyValue) (o : Option Partial) → is_at key o ≡ true → (q : Partial) × (o ≡ Some q) × (q.key ≡ key)
found_key key None e = absurd (false≢true e)
found_key key (Some q) e = elim (key_cases q.key key) [ inl h ↦ (q, refl, h.1) | inr h ↦ absurd (true≢false (sym e ∙ h.0)) ]

-- ending the key's message, wherever it is
pub ended_cleared : (slots limit : ℕ) (t : Table) (history : History) (key : KeyValue) (found : Option ℕ) → TableStandsFor slots limit t history → position (is_at key) t ≡ found
    → Cleared key t (ended t found)
ended_cleared slots limit t history key None s e = record {
  kept = λ j q apart a. a;
  only = λ j q a. (a, λ same. true≢false (sym (rw same (same_key-same key)) ∙ position-none (is_at key) t e j (Some q) a));
  long = refl;
}
ended_cleared slots limit t history key (Some i) s e =
    let at = position-some (is_at key) t i e in
    let mine = found_key key at.0 at.2 in
    let here : Holds t i mine.0 = at.1 ∙ ap Some mine.1 in
    let within = slice_get_within t i (Some mine.0) here in
    record {
      kept = λ j q apart a. elim (cases_eq i j) [
        | inl same ↦ absurd (apart (ap (λ (x : Partial). x.key) (same_held t i q mine.0 (subst (λ n. Holds t n q) (sym same) a) here) ∙ mine.2))
        | inr other ↦ get_set_other t i j None other ∙ a
      ];
      only = λ j q a. elim (cases_eq i j) [
        | inl same ↦ absurd (not_held (set t i None) i q (get_set_same t i None within) (subst (λ n. Holds (set t i None) n q) (sym same) a))
        | inr other ↦
            let b : Holds t j q = sym (get_set_other t i j None other) ∙ a in
            (b, λ e. other (s.once i j mine.0 q here b (mine.2 ∙ sym e)))
      ];
      long = length-set t i None;
    }

holds_other : (history : History) (i : Input) (q : Partial) → same_key (key_of_input i) q.key ≡ false → HoldsLast history q → HoldsLast (after history i) q
holds_other history i q n h = record {
  packets = h.packets;
  are = subst (λ xs. ArePackets xs h.packets) (sym (last-other history i q.key n)) h.are;
  bytes = h.bytes;
  unit = h.unit;
  number = h.number;
}

other_key : (a b : KeyValue) → b ≢ a → same_key a b ≡ false
other_key a b n = elim (key_cases a b) [ inl h ↦ absurd (n (sym h.1)) | inr h ↦ h.0 ]

-- the key isn't open after the input, and the table is without it
pub cleared_stands : (slots limit : ℕ) (t u : Table) (history : History) (i : Input) → TableStandsFor slots limit t history → Cleared (key_of_input i) t u
    → ¬ IsOpen slots limit (after history i) (key_of_input i) → TableStandsFor slots limit u (after history i)
cleared_stands slots limit t u history i s c shut = record {
  held = λ j q a.
      let b = c.only j q a in
      let n = other_key (key_of_input i) q.key b.1 in
      let h = s.held j q b.0 in
      ((open_other slots limit history i q.key n).1 h.0, holds_other history i q n h.1);
  opened = λ key o. elim (key_cases (key_of_input i) key) [
    | inl h ↦ absurd (shut (subst (λ k. IsOpen slots limit (after history i) k) (sym h.1) o))
    | inr h ↦
        let w = s.opened key ((open_other slots limit history i key h.0).0 o) in
        (w.0, w.1, c.kept w.0 w.1 (λ e. h.1 (sym e ∙ w.3)) w.2, w.3)
  ];
  once = λ j k q r a b e. s.once j k q r (c.only j q a).0 (c.only k r b).0 e;
}

-- the key is open after the input, and a slot that was free holds it
pub placed_stands : (slots limit : ℕ) (t u : Table) (history : History) (i : Input) (index : ℕ) (q : Partial) → TableStandsFor slots limit t history → Cleared (key_of_input i) t u
    → slice_get u index ≡ Some None → q.key ≡ key_of_input i → IsOpen slots limit (after history i) (key_of_input i) → HoldsLast (after history i) q
    → TableStandsFor slots limit (set u index (Some q)) (after history i)
placed_stands slots limit t u history i index q s c free key_is opened holds =
    let within = slice_get_within u index None free in
    let new : Holds (set u index (Some q)) index q = get_set_same u index (Some q) within in
    let old : ((j : ℕ) (r : Partial) → index ≢ j → Holds (set u index (Some q)) j r → Holds u j r) = λ j r n a. sym (get_set_other u index j (Some q) n) ∙ a in
    let mine : ((j : ℕ) (r : Partial) → index ≡ j → Holds (set u index (Some q)) j r → q ≡ r) =
    λ j r e a. same_held (set u index (Some q)) index q r new (subst (λ n. Holds (set u index (Some q)) n r) (sym e) a) in
    record {
      held = λ j r a. elim (cases_eq index j) [
        | inl e ↦ subst (λ (x : Partial). IsOpen slots limit (after history i) x.key × HoldsLast (after history i) x) (mine j r e a)
            (subst (λ k. IsOpen slots limit (after history i) k) (sym key_is) opened, holds)
        | inr n ↦
            let b = c.only j r (old j r n a) in
            let apart = other_key (key_of_input i) r.key b.1 in
            let h = s.held j r b.0 in
            ((open_other slots limit history i r.key apart).1 h.0, holds_other history i r apart h.1)
      ];
      opened = λ key o. elim (key_cases (key_of_input i) key) [
        | inl h ↦ (index, q, new, key_is ∙ h.1)
        | inr h ↦
            let w = s.opened key ((open_other slots limit history i key h.0).0 o) in
            let b = c.kept w.0 w.1 (λ e. h.1 (sym e ∙ w.3)) w.2 in
            let n : index ≢ w.0 = λ e. not_held u index w.1 free (subst (λ m. Holds u m w.1) (sym e) b) in
            (w.0, w.1, get_set_other u index w.0 (Some q) n ∙ b, w.3)
      ];
      once = λ j k r v a b e. elim (cases_eq index j) [
        | inl x ↦ elim (cases_eq index k) [
          | inl y ↦ sym x ∙ y
          | inr y ↦ absurd ((c.only k v (old k v y b)).1 (sym e ∙ ap (λ (z : Partial). z.key) (sym (mine j r x a)) ∙ key_is))
        ]
        | inr x ↦ elim (cases_eq index k) [
          | inl y ↦ absurd ((c.only j r (old j r x a)).1 (e ∙ ap (λ (z : Partial). z.key) (sym (mine k v y b)) ∙ key_is))
          | inr y ↦ s.once j k r v (c.only j r (old j r x a)).0 (c.only k v (old k v y b)).0 e
        ]
      ];
    }

-- a free slot, told by the other open keys
pub room : (slots limit : ℕ) (t u : Table) (history : History) (key : KeyValue) (index : ℕ) → TableStandsFor slots limit t history → Cleared key t u → length t ≡ slots
    → slice_get u index ≡ Some None → FewerThan slots (IsOtherOpen slots limit history key)
room slots limit t u history key index s c long free keys apart all =
    let most = no_more keys (held_keys u) apart (λ k d within.
    let o = all k d within in
    let w = s.opened _ o.1 in
    subst (λ (x : KeyValue). Among x (held_keys u)) w.3 (keys_among u w.0 w.1 (c.kept w.0 w.1 (λ e. o.0 (sym w.3 ∙ e)) w.2))) in
    let fewer = keys_fewer u index free in
    let same = c.long in
    omega arith

-- no free slot
pub full : (slots limit : ℕ) (t u : Table) (history : History) (key : KeyValue) → TableStandsFor slots limit t history → Cleared key t u → length t ≡ slots
    → position is_none u ≡ None → AsManyAs slots (IsOtherOpen slots limit history key)
full slots limit t u history key s c long e = (
  held_keys u,
  keys_apart u (λ i j q r a b same. s.once i j q r (c.only i q a).0 (c.only j r b).0 same),
  keys_have (IsOtherOpen slots limit history key) u (λ j q a. let b = c.only j q a in (b.1, (s.held j q b.0).0)),
  keys_all u (position-none is_none u e) ∙ c.long ∙ long,
)
