-- The packets of a message come one after another at a node where no key is open: all but the last open its key, and
-- with the last the message comes, and no key is open again.
use Rattle.std.{proofs.Common.{◌≡◌, ◌≢◌, ℕ, ◌+◌, ◌≤◌, true, false, List, [], ◌∷◌, ◌++◌, length, refl, sym, ap, ◌∙◌, subst, inl, inr, arith, length-append}, proofs.lemmas.List.Elements.{All-head}}
use Rattle.mctp_transport.{specs.PacketValues.{PacketValue, KeyValue, key_of}, specs.Messages.{Joined, payloads_of}, specs.Histories.{Arrived, History, after, last_of, ArePackets, FewerThan, IsOpen, IsOtherOpen, Comes}, specs.Hearing.{Whole, Held, Hears}, proofs.SomeAnswers.{some_answer}, proofs.Joining.{front_begins, begins_last, joined_last, joined_alone, payloads_length, payloads_snoc}, proofs.Openness.{open_start_from, Continues, open_more_from, open_other, has_started, are_alone, are_more, comes_start_from, comes_more_from, one_payload}, proofs.FirstIndexes.{key_cases}}
use Rattle.net_runs.specs.States.{slots, limit}

-- no key is open
abbrev pub IsClosed : History → Type 0
IsClosed h = (key : KeyValue) → ¬ IsOpen slots limit h key

-- The packets of the message so far have come: none, or its key alone is open with them.
pub record HasBegun (h : History) (key : KeyValue) (ps : List PacketValue) : Type 0 where
  pub opened : IsOpen slots limit h key
  pub are : ArePackets (last_of h key) ps
  pub alone : (other : KeyValue) → other ≢ key → ¬ IsOpen slots limit h other

abbrev pub Awaits : History → KeyValue → List PacketValue → Type 0
Awaits h key [] = IsClosed h
Awaits h key (p ∷ ps) = HasBegun h key (p ∷ ps)

-- another key is open after the packet only where it was open before
others_stay : (h : History) (p : PacketValue) (other : KeyValue) → other ≢ key_of p → ¬ IsOpen slots limit h other → ¬ IsOpen slots limit (after h (Arrived p)) other
others_stay h p other apart closed opened = elim (key_cases (key_of p) other) [
  | inl (test, same) ↦ apart (sym same)
  | inr (test, different) ↦ closed ((open_other slots limit h (Arrived p) other test).0 opened)
]

no_room_taken : (h : History) (key : KeyValue) → IsClosed h → FewerThan slots (IsOtherOpen slots limit h key)
no_room_taken h key closed [] apart all = omega arith
no_room_taken h key closed (k ∷ keys) apart all = absurd (closed k (All-head (IsOtherOpen slots limit h key) k keys all).1)

-- with the message its key is open no more
pub whole_closes : (h : History) (p : PacketValue) (message : List ℕ) → Comes slots limit (after h (Arrived p)) message → ((other : KeyValue) → other ≢ key_of p → ¬ IsOpen slots limit h other)
    → IsClosed (after h (Arrived p))
whole_closes h p message comes alone key opened = elim (key_cases (key_of p) key) [
  | inl (test, same) ↦
      let a = some_answer slots limit h p in
      let O : KeyValue → Type 0 = λ k. IsOpen slots limit (after h (Arrived p)) k in
      let held = a.1.only Held (subst O (sym same) opened) in
      let whole = a.1.only (Whole message) comes in
      let e : Held ≡ Whole message = held ∙ sym whole in cc
  | inr (test, different) ↦ others_stay h p key (λ same. different (sym same)) (alone key (λ same. different (sym same))) opened
]

-- the first of several
first_begins : (h : History) (p : PacketValue) → IsClosed h → p.som ≡ true → p.eom ≡ false → length p.payload ≤ limit → HasBegun (after h (Arrived p)) (key_of p) (p ∷ [])
first_begins h p closed starts going fits = record {
  opened = open_start_from slots limit h p starts (record { going = going; fits = fits; room = no_room_taken h (key_of p) closed });
  are = are_alone h p starts;
  alone = λ other apart. others_stay h p other apart (closed other);
}

module _ (message : List ℕ) (key : KeyValue) (fits : length message ≤ limit) where
  size_before : (ps rest : List PacketValue) (p : PacketValue) → Joined ((ps ++ p ∷ []) ++ rest) message → length (payloads_of ps) + length p.payload ≤ limit
  size_before ps rest p joined =
      let whole = ap length joined.whole in
      let front = payloads_length ps p in
      let both = payloads_append (ps ++ p ∷ []) rest in
      omega arith
    where
      payloads_append : (xs ys : List PacketValue) → length (payloads_of xs) ≤ length (payloads_of (xs ++ ys))
      payloads_append [] ys = omega arith
      payloads_append (x ∷ xs) ys =
          let h = payloads_append xs ys in omega (arith, h, length-append x.payload (payloads_of xs), length-append x.payload (payloads_of (xs ++ ys)))

  -- a packet that isn't the last
  pub held : (h : History) (ps rest : List PacketValue) (p q : PacketValue) → Joined ((ps ++ p ∷ []) ++ q ∷ rest) message → key_of p ≡ key → Awaits h key ps
      → Hears slots limit h p Held × Awaits (after h (Arrived p)) key (ps ++ p ∷ [])
  held h [] rest p q joined mine closed =
      let begins = front_begins (p ∷ []) (q ∷ rest) message (omega arith) (omega arith) joined in
      let size = size_before [] (q ∷ rest) p joined in
      let begun = first_begins h p closed (begins.start 0 p refl) (begins.going 0 p refl) (omega arith) in
      let B : KeyValue → Type 0 = λ k. HasBegun (after h (Arrived p)) k (p ∷ []) in
      (begun.opened, subst B mine begun)
  held h (first ∷ ps) rest p q joined mine begun =
      let begins = front_begins ((first ∷ ps) ++ p ∷ []) (q ∷ rest) message (omega arith) (omega arith) joined in
      let (before, follows, going) = begins_last (first ∷ ps) p (omega arith) begins in
      let size = size_before (first ∷ ps) (q ∷ rest) p joined in
      let O : KeyValue → Type 0 = λ k. IsOpen slots limit h k in
      let A : KeyValue → Type 0 = λ k. ArePackets (last_of h k) (first ∷ ps) in
      let opened = subst O (sym mine) begun.opened in
      let are = subst A (sym mine) begun.are in
      let continues : Continues slots limit h p (first ∷ ps) = record { opened = opened; are = are; number = follows.number; size = follows.fits; fits = size } in
      let still = open_more_from slots limit h p (first ∷ ps) follows.later continues going in
      let N : KeyValue → Type 0 = λ k. HasBegun (after h (Arrived p)) k ((first ∷ ps) ++ p ∷ []) in (
        still,
        subst N mine (record {
          opened = still;
          are = are_more h p (first ∷ ps) follows.later (has_started slots limit h (key_of p) opened) are;
          alone = λ other apart. others_stay h p other apart (begun.alone other (λ same. apart (same ∙ sym mine)));
        }),
      )

  -- the last packet
  pub comes_last : (h : History) (ps : List PacketValue) (p : PacketValue) → Joined (ps ++ p ∷ []) message → key_of p ≡ key → Awaits h key ps
      → Comes slots limit (after h (Arrived p)) message × IsClosed (after h (Arrived p))
  comes_last h [] p joined mine closed =
      let ends = joined_alone p message joined in
      let whole : message ≡ p.payload = joined.whole ∙ one_payload p in
      let C : List ℕ → Type 0 = λ m. Comes slots limit (after h (Arrived p)) m in
      let comes = subst C (sym whole) (comes_start_from slots limit h p ends.0 ends.1 (omega (arith, ap length whole, fits))) in
      (comes, whole_closes h p message comes (λ other apart. closed other))
  comes_last h (first ∷ ps) p joined mine begun =
      let (follows, ends) = joined_last (first ∷ ps) p message (omega arith) joined in
      let J : List PacketValue → Type 0 = λ qs. Joined qs message in
      let size = payloads_length (first ∷ ps) p in
      let long = ap length joined.whole in
      let O : KeyValue → Type 0 = λ k. IsOpen slots limit h k in
      let A : KeyValue → Type 0 = λ k. ArePackets (last_of h k) (first ∷ ps) in
      let opened = subst O (sym mine) begun.opened in
      let are = subst A (sym mine) begun.are in
      let continues : Continues slots limit h p (first ∷ ps) = record { opened = opened; are = are; number = follows.number; size = follows.fits; fits = omega (arith, size, long, fits) } in
      let C : List ℕ → Type 0 = λ m. Comes slots limit (after h (Arrived p)) m in
      let whole : message ≡ payloads_of (first ∷ ps) ++ p.payload = joined.whole ∙ payloads_snoc (first ∷ ps) p in
      let comes = subst C (sym whole) (comes_more_from slots limit h p (first ∷ ps) follows.later continues ends) in
      (comes, whole_closes h p message comes (λ other apart. begun.alone other (λ same. apart (same ∙ sym mine))))
