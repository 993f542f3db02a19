-- What is heard of one entry more.
use Rattle.std.{proofs.Common.{◌≡◌, ℕ, ◌<◌, ◌+◌, ◌≤◌, ◌&&◌, Bool, true, false, List, [], ◌∷◌, ◌++◌, length, arith, refl, ap, sym, ◌∙◌, subst, get_or, map, take, inl, inr, cond}, specs.Prelude.{⊤, Result, Ok, Err, OnOk, Option, Some, None, unwrap_or}, specs.List.{filter}, specs.Str.{bytes_eq}, specs.BTreeMap.{get}, proofs.lemmas.List.{append-nil, append_assoc, length-append}, proofs.lemmas.List.Elements.{filter-append}, proofs.lemmas.Bool.{cases_Bool}, specs.Cmp.Lexicographic.{bytes_decides}}
use Rattle.bus_captures.{specs.Values.{EntryValue, entry_value}, specs.declared.capture.Entry.{Entry}, specs.declared.capture.Interface.{Interface}}
use Rattle.heard_captures.{specs.Places.{is_same, pair_cmp}, specs.Seen.{Seen}, specs.Stations.{AreIdle}, specs.Steps.{HaveSeen, Sees}, specs.Messages.{MessageValue, Came, message_value, messages_of, messages_in}, specs.Said.{spoken, is_that, times, IsAgain, AreSaid}, specs.Times.{times_on, most_on, times_of, Counts, IsEmptyTally, Tallies}, specs.Hearing.{AddsCame, HearsMore}, specs.declared.messages.Message.{Message}, specs.declared.stations.Stations.{Stations}, specs.declared.times.Tally.{Tally}, specs.declared.times.Times.{Times}, proofs.PlaceLaws.{same_pair, same_self}, proofs.SeenLaws.{nothing_seen, next_seen}}
use Rattle.heard_captures.specs.Said as said
use Rattle.heard_captures.specs.Seen as seen
use Rattle.mctp_transport.specs.Hearing as hearing

-- the tally has the counts of what came
pub record HasTallied (tally : Tally) (came : List Came) : Type 0 where
  pub each : (i : Interface) (m : MessageValue) → times_on (times_of tally (spoken m)) i ≡ times i m came
  pub bound : (bytes : List ℕ) (i : Interface) → times_on (times_of tally bytes) i ≤ most_on (times_of tally bytes)
  pub reached : (bytes : List ℕ) → (i : Interface) × (times_on (times_of tally bytes) i ≡ most_on (times_of tally bytes))

nowhere : Interface
nowhere = record { number = None; index = None }

pub nothing_tallied : (tally : Tally) → IsEmptyTally tally → HasTallied tally []
nothing_tallied tally empty = record {
  each = λ i m. ap (λ (o : Option Times). times_on o i) (empty (spoken m));
  bound = λ bytes i. subst (λ (o : Option Times). times_on o i ≤ most_on o) (sym (empty bytes)) (omega arith);
  reached = λ bytes. (nowhere, subst (λ (o : Option Times). times_on o nowhere ≡ most_on o) (sym (empty bytes)) refl);
}

-- one interface has one count
same_count : (o : Option Times) (i j : Interface) → is_same i j ≡ true → times_on o i ≡ times_on o j
same_count None i j same = refl
same_count (Some t) i j same = ap (λ (k : ℕ × ℕ). unwrap_or (get pair_cmp t.on k) 0) (same_pair i j same)

module _ (old new : Option Times) (i : Interface) (is_new : Bool) (counts : Counts old new i is_new) where
  new_bound : ((j : Interface) → times_on old j ≤ most_on old) → (j : Interface) → times_on new j ≤ most_on new
  new_bound within j =
      let low = within j in
      let here = within i in
      elim (cases_Bool (is_same i j)) [
        | inl same ↦
            let this = counts.this j same in
            let one = same_count old i j same in
            elim (cases_Bool is_new) [
              | inl fresh ↦ let most = counts.fresh fresh in let e = most.1 in omega arith
              | inr stale ↦ let most = counts.again stale in let e = most.0 in let f = most.1 in omega arith
            ]
        | inr other ↦
            let this = counts.others j other in
            elim (cases_Bool is_new) [
              | inl fresh ↦ let most = counts.fresh fresh in let e = most.0 in let f = most.1 in omega arith
              | inr stale ↦ let most = counts.again stale in let e = most.0 in let f = most.1 in omega arith
            ]
      ]

  new_reached : (j : Interface) → times_on old j ≡ most_on old → (k : Interface) × (times_on new k ≡ most_on new)
  new_reached j at = elim (cases_Bool is_new) [
    | inl fresh ↦ (i, counts.this i (same_self i) ∙ sym (counts.fresh fresh).1)
    | inr stale ↦
        let less = (counts.again stale).0 in
        elim (cases_Bool (is_same i j)) [
          | inl same ↦ let one = same_count old i j same in absurd (omega arith)
          | inr other ↦ (j, counts.others j other ∙ at ∙ sym (counts.again stale).1)
        ]
  ]

-- the count of one that came more
abbrev one_if : Bool → ℕ
one_if true = 1
one_if false = 0

times_more : (i : Interface) (m : MessageValue) (came : List Came) (c : Came) → times i m (came ++ c ∷ []) ≡ times i m came + one_if (is_that i m c)
times_more i m came c = ap length (filter-append (is_that i m) came (c ∷ [])) ∙ length-append (filter (is_that i m) came) (filter (is_that i m) (c ∷ [])) ∙ ap (λ n. times i m came + n) (last (is_that i m c) refl)
  where
    last : (b : Bool) → is_that i m c ≡ b → length (filter (is_that i m) (c ∷ [])) ≡ one_if b
    last true e = rw e refl
    last false e = rw e refl

module _ (old new : Tally) (came : List Came) (c : Came) (is_new : Bool) (before : HasTallied old came) (more : Tallies old new c.on c.message is_new) where
  by_bytes : (P : Option Times → Option Times → Type 0) → P (times_of old (spoken c.message)) (times_of new (spoken c.message))
      → ((o : Option Times) → P o o) → (bytes : List ℕ) → P (times_of old bytes) (times_of new bytes)
  by_bytes P here there bytes = elim (cases_Bool (bytes_eq (spoken c.message) bytes)) [
    | inl same ↦ subst (λ (bs : List ℕ). P (times_of old bs) (times_of new bs)) ((bytes_decides (spoken c.message) bytes).0 same) here
    | inr other ↦ subst (λ (o : Option Times). P (times_of old bytes) o) (sym (more.others bytes other)) (there (times_of old bytes))
  ]

  each_more : (i : Interface) (m : MessageValue) → times_on (times_of new (spoken m)) i ≡ times i m (came ++ c ∷ [])
  each_more i m = elim (cases_Bool (bytes_eq (spoken c.message) (spoken m))) [
    | inl same ↦
        let e : spoken c.message ≡ spoken m = (bytes_decides (spoken c.message) (spoken m)).0 same in
        elim (cases_Bool (is_same c.on i)) [
          | inl on ↦
              let this : times_on (times_of new (spoken m)) i ≡ times_on (times_of old (spoken m)) i + 1 =
              subst (λ (bs : List ℕ). times_on (times_of new bs) i ≡ times_on (times_of old bs) i + 1) e (more.this.this i on) in
              this ∙ ap (λ n. n + 1) (before.each i m) ∙ sym (times_more i m came c ∙ rw (on, same) refl)
          | inr off ↦
              let this : times_on (times_of new (spoken m)) i ≡ times_on (times_of old (spoken m)) i =
              subst (λ (bs : List ℕ). times_on (times_of new bs) i ≡ times_on (times_of old bs) i) e (more.this.others i off) in
              this ∙ before.each i m ∙ sym (times_more i m came c ∙ rw off (omega arith))
        ]
    | inr other ↦ ap (λ (o : Option Times). times_on o i) (more.others (spoken m) other) ∙ before.each i m ∙ sym (times_more i m came c ∙ none (is_same c.on i) (bytes_eq (spoken c.message) (spoken m)) other)
  ]
    where
      none : (a b : Bool) → b ≡ false → times i m came + one_if (a && b) ≡ times i m came
      none true b e = rw e (omega arith)
      none false b e = omega arith

  pub tallied : HasTallied new (came ++ c ∷ [])
  tallied = record {
    each = each_more;
    bound = λ bytes i. by_bytes (λ o n. ((j : Interface) → times_on o j ≤ most_on o) → (j : Interface) → times_on n j ≤ most_on n)
        (new_bound _ _ c.on is_new more.this) (λ o h. h) bytes (before.bound bytes) i;
    reached = λ bytes. by_bytes (λ o n. ((j : Interface) × (times_on o j ≡ most_on o)) → (j : Interface) × (times_on n j ≡ most_on n))
        (λ h. new_reached _ _ c.on is_new more.this h.0 h.1) (λ o h. h) bytes (before.reached bytes);
  }

  -- what is new came nowhere more often
  pub not_again : is_new ≡ true → ¬ IsAgain came c
  not_again fresh (j, less) =
      let most = (more.this.fresh fresh).0 in
      let there = before.bound (spoken c.message) j in
      let here = before.each c.on c.message in
      let other = before.each j c.message in
      omega arith

  pub again : is_new ≡ false → IsAgain came c
  again stale =
      let less = (more.this.again stale).0 in
      let at = before.reached (spoken c.message) in
      let here = before.each c.on c.message in
      let other = before.each at.0 c.message in
      let e = at.1 in
      (at.0, omega arith)

-- the entries so far were seen, what came was counted, and these messages came of them
pub record HaveHeard (unit : ℕ) (entries : List EntryValue) (stations : Stations) (tally : Tally) (messages : List MessageValue) : Type 0 where
  pub seen : List Seen
  pub have : HaveSeen unit entries seen stations
  pub tallied : HasTallied tally (messages_in seen)
  pub heard : AreSaid (messages_in seen) messages

pub nothing_heard : (unit : ℕ) (stations : Stations) (tally : Tally) → AreIdle stations → IsEmptyTally tally → HaveHeard unit [] stations tally []
nothing_heard unit stations tally idle empty = record { seen = []; have = nothing_seen unit stations idle; tallied = nothing_tallied tally empty; heard = said.None }

messages_more : (seen more : List Seen) → messages_in (seen ++ more) ≡ messages_in seen ++ messages_in more
messages_more [] more = refl
messages_more (s ∷ seen) more = ap (λ ms. messages_of s ++ ms) (messages_more seen more) ∙ sym (append_assoc (messages_of s) (messages_in seen) (messages_in more))

-- what came was counted, and is among the messages where it is new
pub record HasAdded (tally : Tally) (came : List Came) (messages : List MessageValue) : Type 0 where
  pub tallied : HasTallied tally came
  pub heard : AreSaid came messages

one_added : (old new : Tally) (came : List Came) (c : Came) (before after : List MessageValue) (is_new : Bool) → HasTallied old came → AreSaid came before
    → Tallies old new c.on c.message is_new → after ≡ before ++ cond is_new (c.message ∷ []) [] → AreSaid (came ++ c ∷ []) after
one_added old new came c before after true has are more added = rw added (said.New came before c are (not_again old new came c true has more refl))
one_added old new came c before after false has are more added = rw (added, append-nil before) (said.Again came before c are (again old new came c false has more refl))

-- a packet ends at most one message
abbrev IsShort : List Came → Type 0
IsShort [] = ⊤
IsShort (c ∷ []) = ⊤
IsShort (c ∷ d ∷ more) = ⊥

added_so : (old new : Tally) (came more : List Came) (before after : List MessageValue) → IsShort more → HasTallied old came → AreSaid came before
    → AddsCame more old new before after → HasAdded new (came ++ more) after
added_so old new came [] before after short has are adds = record {
  tallied = rw (adds.0, append-nil came) has;
  heard = rw (adds.1, append-nil came) are;
}
added_so old new came (c ∷ []) before after short has are (is_new, more, added) = record {
  tallied = tallied old new came c is_new has more;
  heard = one_added old new came c before after is_new has are more added;
}
added_so old new came (c ∷ d ∷ more) before after short has are adds = absurd short

short_of : (s : Seen) → IsShort (messages_of s)
short_of (seen.Fed i p (hearing.Whole bytes)) = tt
short_of (seen.Fed i p hearing.Held) = tt
short_of (seen.Fed i p (hearing.Dropped cause)) = tt
short_of (seen.NoPacket why) = tt
short_of (seen.Told way message) = tt
short_of (seen.Other protocol) = tt
short_of (seen.NotRead why) = tt

pub next_heard : (unit : ℕ) (items : List Entry) (i : ℕ) (item : Entry) (old new : Stations) (old_tally new_tally : Tally) (before after : List Message) → i < length items → item ≡ get_or items i item
    → HaveHeard unit (map entry_value (take i items)) old old_tally (map message_value before) → HearsMore unit old new old_tally new_tally (entry_value item) before after
    → HaveHeard unit (map entry_value (take (i + 1) items)) new new_tally (map message_value after)
next_heard unit items i item old new old_tally new_tally before after within is have more =
    let added = added_so old_tally new_tally (messages_in have.seen) (messages_of more.seen) (map message_value before) (map message_value after) (short_of more.seen) have.tallied have.heard more.added in
    let whole : messages_in (have.seen ++ more.seen ∷ []) ≡ messages_in have.seen ++ messages_of more.seen =
    messages_more have.seen (more.seen ∷ []) ∙ ap (λ ms. messages_in have.seen ++ ms) (append-nil (messages_of more.seen)) in
    record {
      seen = have.seen ++ more.seen ∷ [];
      have = next_seen unit items i item have.seen old new more.seen within is have.have more.sees;
      tallied = subst (λ (came : List Came). HasTallied new_tally came) (sym whole) added.tallied;
      heard = subst (λ (came : List Came). AreSaid came (map message_value after)) (sym whole) added.heard;
    }

-- the entry was seen, and the message that it ended was added
pub heard_so : {T E : Type 0} (unit : ℕ) (old new : Stations) (old_tally new_tally : Tally) (before after : List Message) (e : EntryValue) (s : Seen) (result : Result T E)
    → Sees unit old new e s → OnOk result (AddsCame (messages_of s) old_tally new_tally (map message_value before) (map message_value after))
    → OnOk result (HearsMore unit old new old_tally new_tally e before after)
heard_so unit old new old_tally new_tally before after e s (Ok t) sees added = record { seen = s; sees = sees; added = added }
heard_so unit old new old_tally new_tally before after e s (Err x) sees added = added
