-- What a table stands for after one more input.
use Rattle.std.{proofs.Common.{◌≡◌, ℕ, zero, suc, ◌<◌, ◌≤◌, Bool, true, false, cond, List, [], ◌∷◌, ◌++◌, length, slice_get, set, position, Option, Some, None, is_none, is_some, count_by, refl, sym, ap, ◌∙◌, arith, inl, inr, subst}, specs.Prelude.{◌↔◌, nat_lt}, proofs.lemmas.Bool.{false≢true, true≢false, cases_Bool, ltb-true, ltb-false}, proofs.lemmas.Option.{same_Some, none-some, slice_get_within}, proofs.lemmas.List.{length-append, set-set}}
use Rattle.mctp_transport.{specs.PacketValues.{PacketValue, KeyValue, key_of}, specs.Messages.{payloads_of, AtFirst}, specs.Histories.{Arrived, TimeUp, History, after, has_start, inputs_of, last_of, ArePackets, IsKeyCount, IsOpen}, specs.Hearing.{Answer, Whole, Held, Dropped, HearsOnly}, specs.Tables.{Partial, Holds, HoldsLast, TableStandsFor, Table, is_at}, specs.TableChanges.{begun, fault_at, extended, goes_on, answers_on, placed, started, ended, carried_at, carried, moved, expired}, specs.declared.drop_cause.DropCause.{DropCause}, proofs.FirstIndexes.{same_key-same, get_cases}, proofs.Joining.{first_of_snoc, payloads_snoc}, proofs.Openness.{open_expired, open_packets, are_alone, one_payload, are_more, has_started}, proofs.Verdicts.{Told, heard_from, hears_one, hears_only}, proofs.Slots.{Among, get_set_same, position-none, position-some, no_more, held_keys, keys_among, keys_have, keys_apart, keys_count}, proofs.Clearing.{Cleared, found_key, ended_cleared, cleared_stands, placed_stands, room, full}, proofs.Faults.{Means, means}}
use Rattle.mctp_transport.specs.declared.drop_cause.DropCause.TheVariants as drop_cause

only_first : (p q : PacketValue) (i : ℕ) → slice_get (p ∷ []) i ≡ Some q → p ≡ q
only_first p q zero a = same_Some p q a
only_first p q (suc i) a = absurd (none-some q a)

begun_holds : (history : History) (p : PacketValue) → p.som ≡ true → HoldsLast (after history (Arrived p)) (begun p)
begun_holds history p s = record {
  packets = p ∷ [];
  are = are_alone history p s;
  bytes = sym (one_payload p);
  unit = λ q a. ap (λ (x : PacketValue). length x.payload) (only_first p q 0 a);
  number = λ i q e a. ap (λ (x : PacketValue). x.number) (only_first p q i a);
}

-- a table after a packet: what is heard, and what it stands for
pub record Stands (slots limit : ℕ) (history : History) (p : PacketValue) (result : Table × Answer) : Type 0 where
  pub told : Told slots limit history p result.1
  pub stands : TableStandsFor slots limit result.0 (after history (Arrived p))

shut : (slots limit : ℕ) (history : History) (p : PacketValue) (a : Answer) → Told slots limit history p a → (a ≡ Held → ⊥) → ¬ IsOpen slots limit (after history (Arrived p)) (key_of p)
shut slots limit history p a t n o = n (hears_one slots limit history p a Held (heard_from slots limit history p a t) o)

closed : (slots limit : ℕ) (t u : Table) (history : History) (p : PacketValue) (a : Answer) → TableStandsFor slots limit t history → Cleared (key_of p) t u
    → Told slots limit history p a → (a ≡ Held → ⊥) → Stands slots limit history p (u, a)
closed slots limit t u history p a s c told n = record {
  told = told;
  stands = cleared_stands slots limit t u history (Arrived p) s c (shut slots limit history p a told n);
}

placed_is : (slots limit : ℕ) (t u : Table) (history : History) (p : PacketValue) (found : Option ℕ) → TableStandsFor slots limit t history → Cleared (key_of p) t u → length t ≡ slots
    → p.som ≡ true → length p.payload ≤ limit → p.eom ≡ false → position is_none u ≡ found → Stands slots limit history p (placed u p found)
placed_is slots limit t u history p None s c long som fits going e =
    closed slots limit t u history p (Dropped drop_cause.Full) s c
    (inl (som, inr (fits, inr (going, inl (full slots limit t u history (key_of p) s c long e, refl))))) (λ n. cc)
placed_is slots limit t u history p (Some i) s c long som fits going e =
    let at = position-some is_none u i e in
    let free : slice_get u i ≡ Some None = at.1 ∙ ap Some (none_is at.0 at.2) in
    let told : Told slots limit history p Held = inl (som, inr (fits, inr (going, inr (room slots limit t u history (key_of p) i s c long free, refl)))) in
    record {
      told = told;
      stands = placed_stands slots limit t u history (Arrived p) i (begun p) s c free refl (heard_from slots limit history p Held told) (begun_holds history p som);
    }
  where
    none_is : (o : Option Partial) → is_none o ≡ true → o ≡ None
    none_is None e = refl
    none_is (Some q) e = absurd (false≢true e)

pub pick_true : (P : Table × Answer → Type 0) (b : Bool) (x y : Table × Answer) → b ≡ true → P x → P (cond b x y)
pick_true P true x y e h = h
pick_true P false x y e h = absurd (false≢true e)

pub pick_false : (P : Table × Answer → Type 0) (b : Bool) (x y : Table × Answer) → b ≡ false → P y → P (cond b x y)
pick_false P true x y e h = absurd (true≢false e)
pick_false P false x y e h = h

started_is : (slots limit : ℕ) (t u : Table) (history : History) (p : PacketValue) → TableStandsFor slots limit t history → Cleared (key_of p) t u → length t ≡ slots
    → p.som ≡ true → Stands slots limit history p (started limit u p)
started_is slots limit t u history p s c long som = elim (cases_Bool (nat_lt limit (length p.payload))) [
  | inl y ↦ pick_true (Stands slots limit history p) (nat_lt limit (length p.payload)) _ _ y
      (closed slots limit t u history p (Dropped drop_cause.Limit) s c (inl (som, inl (ltb-true limit (length p.payload) y, refl))) (λ n. cc))
  | inr n ↦
      let fits = ltb-false limit (length p.payload) n in
      pick_false (Stands slots limit history p) (nat_lt limit (length p.payload)) _ _ n
      (elim (cases_Bool p.eom) [
        | inl y ↦ pick_true (Stands slots limit history p) p.eom _ _ y
            (closed slots limit t u history p (Whole p.payload) s c (inl (som, inr (fits, inl (y, refl)))) (λ n. cc))
        | inr z ↦ pick_false (Stands slots limit history p) p.eom _ _ z (placed_is slots limit t u history p (position is_none u) s c long som fits z refl)
      ])
]

extended_holds : (history : History) (p : PacketValue) (q : Partial) (ps : List PacketValue) → p.som ≡ false → q.key ≡ key_of p → has_start (inputs_of history (key_of p)) ≡ true → 0 < length ps
    → ArePackets (last_of history (key_of p)) ps → q.bytes ≡ payloads_of ps → AtFirst ps (λ f. q.unit ≡ length f.payload) → HoldsLast (after history (Arrived p)) (extended q p)
extended_holds history p q ps som key started some are bytes unit = record {
  packets = ps ++ p ∷ [];
  are = subst (λ k. ArePackets (last_of (after history (Arrived p)) k) (ps ++ p ∷ [])) (sym key) (are_more history p ps som started are);
  bytes = ap (λ bs. bs ++ p.payload) bytes ∙ sym (payloads_snoc ps p);
  unit = λ f a. unit f (first_of_snoc ps p f some a);
  number = λ i f e a. elim (get_cases ps p i f a) [
    | inl h ↦ absurd (omega (arith, h.1, length-append ps (p ∷ [])))
    | inr h ↦ ap (λ (x : PacketValue). x.number) h.1
  ];
}

-- the packet goes on, or not, from what is held
gone : (slots limit : ℕ) (t : Table) (history : History) (p : PacketValue) (i : ℕ) (q : Partial) (ps : List PacketValue) → TableStandsFor slots limit t history → p.som ≡ false
    → Cleared (key_of p) t (set t i None) → i < length t → q.key ≡ key_of p → IsOpen slots limit history (key_of p) → ArePackets (last_of history (key_of p)) ps
    → q.bytes ≡ payloads_of ps → AtFirst ps (λ f. q.unit ≡ length f.payload)
    → (fault : Option DropCause) (ends : Bool) → p.eom ≡ ends → Means limit ps p fault
    → Stands slots limit history p (set t i (goes_on fault ends q p), answers_on fault ends q p)
gone slots limit t history p i q ps s som c within key o are bytes unit (Some drop_cause.Number) ends e m =
    closed slots limit t (set t i None) history p (Dropped drop_cause.Number) s c (inr (som, inr (o, (ps, are, inl (m, refl))))) (λ n. cc)
gone slots limit t history p i q ps s som c within key o are bytes unit (Some drop_cause.Length) ends e m =
    closed slots limit t (set t i None) history p (Dropped drop_cause.Length) s c (inr (som, inr (o, (ps, are, inr (m.0, inl (m.1, refl)))))) (λ n. cc)
gone slots limit t history p i q ps s som c within key o are bytes unit (Some drop_cause.Limit) ends e m =
    closed slots limit t (set t i None) history p (Dropped drop_cause.Limit) s c (inr (som, inr (o, (ps, are, inr (m.0, inr (m.1, inl (m.2, refl))))))) (λ n. cc)
gone slots limit t history p i q ps s som c within key o are bytes unit (Some drop_cause.NotOpen) ends e m = absurd m
gone slots limit t history p i q ps s som c within key o are bytes unit (Some drop_cause.Full) ends e m = absurd m
gone slots limit t history p i q ps s som c within key o are bytes unit None true e m =
    closed slots limit t (set t i None) history p (Whole (q.bytes ++ p.payload)) s c
    (inr (som, inr (o, (ps, are, inr (m.0, inr (m.1, inr (m.2, inl (e, ap (λ bs. Whole (bs ++ p.payload)) bytes)))))))) (λ n. cc)
gone slots limit t history p i q ps s som c within key o are bytes unit None false e m =
    let told : Told slots limit history p Held = inr (som, inr (o, (ps, are, inr (m.0, inr (m.1, inr (m.2, inr (e, refl))))))) in
    let some = (open_packets slots limit history (key_of p) ps o are).0.some in
    record {
      told = told;
      stands = subst (λ (u : Table). TableStandsFor slots limit u (after history (Arrived p))) (set-set t i None (Some (extended q p)))
          (placed_stands slots limit t (set t i None) history (Arrived p) i (extended q p) s c (get_set_same t i None within) key
          (heard_from slots limit history p Held told)
          (extended_holds history p q ps som key (has_started slots limit history (key_of p) o) some are bytes unit));
    }

carried_is : (slots limit : ℕ) (t : Table) (history : History) (p : PacketValue) (found : Option ℕ) → TableStandsFor slots limit t history → p.som ≡ false
    → position (is_at (key_of p)) t ≡ found → Stands slots limit history p (carried limit t p found)
carried_is slots limit t history p None s som e =
    closed slots limit t t history p (Dropped drop_cause.NotOpen) s (ended_cleared slots limit t history (key_of p) None s e)
    (inr (
      som,
      inl (
        λ o.
            let w = s.opened (key_of p) o in
            true≢false (sym (rw w.3 (same_key-same (key_of p))) ∙ position-none (is_at (key_of p)) t e w.0 (Some w.1) w.2),
        refl,
      ),
    )) (λ n. cc)
carried_is slots limit t history p (Some i) s som e =
    let at = position-some (is_at (key_of p)) t i e in
    let mine = found_key (key_of p) at.0 at.2 in
    let q = mine.0 in
    let here : slice_get t i ≡ Some (Some q) = at.1 ∙ ap Some mine.1 in
    let within = slice_get_within t i (Some q) here in
    let held = s.held i q here in
    let o : IsOpen slots limit history (key_of p) = subst (λ k. IsOpen slots limit history k) mine.2 held.0 in
    let h = held.1 in
    let are : ArePackets (last_of history (key_of p)) h.packets = subst (λ k. ArePackets (last_of history k) h.packets) mine.2 h.are in
    let some = (open_packets slots limit history (key_of p) h.packets o are).0.some in
    subst (λ (x : Option (Option Partial)). Stands slots limit history p (carried_at limit t p i x)) (sym here)
    (gone slots limit t history p i q h.packets s som (ended_cleared slots limit t history (key_of p) (Some i) s e) within mine.2 o are h.bytes h.unit
    (fault_at limit q p) p.eom refl (means limit history q h p some))

-- a table that stands for a history: what is heard of a packet, and what the table stands for then
pub moved_is : (slots limit : ℕ) (t : Table) (history : History) (p : PacketValue) → TableStandsFor slots limit t history → length t ≡ slots
    → HearsOnly slots limit history p (moved limit t p).1 × TableStandsFor slots limit (moved limit t p).0 (after history (Arrived p))
moved_is slots limit t history p s long = elim (cases_Bool p.som) [
  | inl y ↦ heard (pick_true (Stands slots limit history p) p.som _ _ y (started_is slots limit t (ended t (position (is_at (key_of p)) t)) history p s (ended_cleared slots limit t history (key_of p) (position (is_at (key_of p)) t) s refl) long y))
  | inr n ↦ heard (pick_false (Stands slots limit history p) p.som _ _ n (carried_is slots limit t history p (position (is_at (key_of p)) t) s n refl))
]
  where
    heard : Stands slots limit history p (moved limit t p) → HearsOnly slots limit history p (moved limit t p).1 × TableStandsFor slots limit (moved limit t p).0 (after history (Arrived p))
    heard h = (hears_only slots limit history p (moved limit t p).1 h.told, h.stands)

-- a key is held where it is open
pub found_open : (slots limit : ℕ) (t : Table) (history : History) (key : KeyValue) → TableStandsFor slots limit t history
    → (is_some (position (is_at key) t) ≡ true) ↔ IsOpen slots limit history key
found_open slots limit t history key s = by (position (is_at key) t) refl
  where
    by : (found : Option ℕ) → position (is_at key) t ≡ found → (is_some found ≡ true) ↔ IsOpen slots limit history key
    by None e = (
      λ y. absurd (false≢true y),
      λ o.
          let w = s.opened key o in
          absurd (true≢false (sym (rw w.3 (same_key-same key)) ∙ position-none (is_at key) t e w.0 (Some w.1) w.2)),
    )
    by (Some i) e = (
      λ _.
          let at = position-some (is_at key) t i e in
          let mine = found_key key at.0 at.2 in
          subst (λ k. IsOpen slots limit history k) mine.2 (s.held i mine.0 (at.1 ∙ ap Some mine.1)).0,
      λ _. refl,
    )

-- a key's time is up
pub expired_stands : (slots limit : ℕ) (t : Table) (history : History) (key : KeyValue) → TableStandsFor slots limit t history
    → TableStandsFor slots limit (expired t key) (after history (TimeUp key))
expired_stands slots limit t history key s =
    cleared_stands slots limit t (expired t key) history (TimeUp key) s (ended_cleared slots limit t history key (position (is_at key) t) s refl) (open_expired slots limit history key)

-- a table that holds nothing stands for the history of nothing
pub nothing_stands : (slots limit : ℕ) (t : Table) → ((i : ℕ) (q : Partial) → ¬ Holds t i q) → TableStandsFor slots limit t []
nothing_stands slots limit t none = record {
  held = λ i q a. absurd (none i q a);
  opened = λ key o. absurd o;
  once = λ i j q r a b e. absurd (none i q a);
}

-- the open keys are as many as the slots that hold a message
pub open_count : (slots limit : ℕ) (t : Table) (history : History) → TableStandsFor slots limit t history → IsKeyCount (IsOpen slots limit history) (count_by is_some t)
open_count slots limit t history s =
    let size = keys_count t in (
      (held_keys t, keys_apart t s.once, keys_have (IsOpen slots limit history) t (λ j q a. (s.held j q a).0), size),
      λ keys apart all.
          let most = no_more keys (held_keys t) apart (λ k d within.
          let w = s.opened _ (all k d within) in
          subst (λ (x : KeyValue). Among x (held_keys t)) w.3 (keys_among t w.0 w.1 w.2)) in
          omega arith,
    )
