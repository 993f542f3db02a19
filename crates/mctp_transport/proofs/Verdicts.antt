-- What is heard, test by test in the order in which an assembler goes.
use Rattle.std.{proofs.Common.{◌≡◌, ◌⊎◌, ℕ, ◌+◌, ◌<◌, ◌≤◌, Bool, true, false, List, ◌++◌, length, refl, sym, ap, ◌∙◌, arith, inl, inr, subst}, proofs.lemmas.Bool.{false≢true, cases_Bool}}
use Rattle.mctp_transport.{specs.PacketValues.{PacketValue, KeyValue, key_of}, specs.Messages.{payloads_of, NumberFollows, LengthFits}, specs.Histories.{History, last_of, ArePackets, FewerThan, AsManyAs, IsOpen, IsOtherOpen}, specs.Hearing.{Answer, Whole, Held, Dropped, ContinuesMessage, Hears, HearsOnly}, proofs.LastStarts.{packets_same}, proofs.Openness.{open_start, open_start_from, Continues, open_more, open_more_from, comes_start, comes_start_from, comes_more, comes_more_from}}
use Rattle.mctp_transport.specs.declared.drop_cause.DropCause.TheVariants as drop_cause

-- where P, this answer; where Q, by the rest
abbrev pub Test : Type 0 → Answer → Type 0 → (Answer → Type 0) → Answer → Type 0
Test P answer Q rest b = (P × (b ≡ answer)) ⊎ (Q × rest b)

abbrev One : (Answer → Type 0) → Type 0
One rest = (b c : Answer) → rest b → rest c → b ≡ c

test_one : (P : Type 0) (answer : Answer) (Q : Type 0) (rest : Answer → Type 0) → (P → Q → ⊥) → One rest → One (Test P answer Q rest)
test_one P answer Q rest apart one b c x y = elim x [
  | inl p ↦ elim y [ inl q ↦ p.1 ∙ sym q.1 | inr q ↦ absurd (apart p.0 q.0) ]
  | inr p ↦ elim y [ inl q ↦ absurd (apart q.0 p.0) | inr q ↦ one b c p.1 q.1 ]
]

abbrev pub ToldOfStart : ℕ → ℕ → History → PacketValue → Answer → Type 0
ToldOfStart slots limit history p =
    Test (limit < length p.payload) (Dropped drop_cause.Limit) (length p.payload ≤ limit)
    (Test (p.eom ≡ true) (Whole p.payload) (p.eom ≡ false)
    (Test (AsManyAs slots (IsOtherOpen slots limit history (key_of p))) (Dropped drop_cause.Full) (FewerThan slots (IsOtherOpen slots limit history (key_of p)))
    (λ b. b ≡ Held)))

abbrev pub ToldOfMore : ℕ → List PacketValue → PacketValue → Answer → Type 0
ToldOfMore limit ps p =
    Test (¬ NumberFollows ps p) (Dropped drop_cause.Number) (NumberFollows ps p)
    (Test (¬ LengthFits ps p) (Dropped drop_cause.Length) (LengthFits ps p)
    (Test (limit < length (payloads_of ps) + length p.payload) (Dropped drop_cause.Limit) (length (payloads_of ps) + length p.payload ≤ limit)
    (Test (p.eom ≡ true) (Whole (payloads_of ps ++ p.payload)) (p.eom ≡ false)
    (λ b. b ≡ Held))))

abbrev pub ToldOfOpen : ℕ → History → PacketValue → Answer → Type 0
ToldOfOpen limit history p b = (ps : List PacketValue) × ArePackets (last_of history (key_of p)) ps × ToldOfMore limit ps p b

abbrev pub ToldOfLater : ℕ → ℕ → History → PacketValue → Answer → Type 0
ToldOfLater slots limit history p = Test (¬ IsOpen slots limit history (key_of p)) (Dropped drop_cause.NotOpen) (IsOpen slots limit history (key_of p)) (ToldOfOpen limit history p)

abbrev pub Told : ℕ → ℕ → History → PacketValue → Answer → Type 0
Told slots limit history p b = ((p.som ≡ true) × ToldOfStart slots limit history p b) ⊎ ((p.som ≡ false) × ToldOfLater slots limit history p b)

not_both : (b : Bool) → b ≡ true → b ≡ false → ⊥
not_both b y n = false≢true (sym n ∙ y)

full_apart : (slots : ℕ) (P : KeyValue → Type 0) → AsManyAs slots P → FewerThan slots P → ⊥
full_apart slots P many fewer = let lt = fewer many.0 many.1 many.2 in let e = many.3 in omega arith

held_one : One (λ b. b ≡ Held)
held_one b c x y = x ∙ sym y

start_one : (slots limit : ℕ) (history : History) (p : PacketValue) → One (ToldOfStart slots limit history p)
start_one slots limit history p = test_one _ _ _ _ (λ x y. omega arith) (test_one _ _ _ _ (not_both p.eom) (test_one _ _ _ _ (full_apart slots (IsOtherOpen slots limit history (key_of p))) held_one))

more_one : (limit : ℕ) (ps : List PacketValue) (p : PacketValue) → One (ToldOfMore limit ps p)
more_one limit ps p = test_one _ _ _ _ (λ x y. x y) (test_one _ _ _ _ (λ x y. x y) (test_one _ _ _ _ (λ x y. omega arith) (test_one _ _ _ _ (not_both p.eom) held_one)))

open_one : (limit : ℕ) (history : History) (p : PacketValue) → One (ToldOfOpen limit history p)
open_one limit history p b c x y =
    let e : x.0 ≡ y.0 = packets_same (last_of history (key_of p)) x.0 y.0 x.1 y.1 in
    more_one limit y.0 p b c (subst (λ ps. ToldOfMore limit ps p b) e x.2) y.2

told_one : (slots limit : ℕ) (history : History) (p : PacketValue) → One (Told slots limit history p)
told_one slots limit history p b c x y = elim x [
  | inl h ↦ elim y [ inl k ↦ start_one slots limit history p b c h.1 k.1 | inr k ↦ absurd (not_both p.som h.0 k.0) ]
  | inr h ↦ elim y [
    | inl k ↦ absurd (not_both p.som k.0 h.0)
    | inr k ↦ test_one _ _ _ _ (λ n o. n o) (open_one limit history p) b c h.1 k.1
  ]
]

-- what is heard is told
later : (slots limit : ℕ) (history : History) (p : PacketValue) (b : Answer) (P : List PacketValue → Type 0) → ContinuesMessage slots limit history p P
    → ((ps : List PacketValue) → P ps → ToldOfMore limit ps p b) → Told slots limit history p b
later slots limit history p b P g f = inr (g.0, inr (g.1, (g.2.0, g.2.1, f g.2.0 g.2.2)))

going : (slots limit : ℕ) (history : History) (p : PacketValue) (b : Answer) (ps : List PacketValue) → p.som ≡ false → Continues slots limit history p ps
    → Test (p.eom ≡ true) (Whole (payloads_of ps ++ p.payload)) (p.eom ≡ false) (λ b. b ≡ Held) b → Told slots limit history p b
going slots limit history p b ps s c t = inr (s, inr (c.opened, (ps, c.are, inr (c.number, inr (c.size, inr (c.fits, t))))))

told_from : (slots limit : ℕ) (history : History) (p : PacketValue) (b : Answer) → Hears slots limit history p b → Told slots limit history p b
told_from slots limit history p (Whole message) h = elim (cases_Bool p.som) [
  | inl s ↦ let c = comes_start slots limit history p message s h in inl (s, inr (c.1, inl (c.0, ap Whole c.2)))
  | inr s ↦ let c = comes_more slots limit history p message s h in going slots limit history p (Whole message) c.0 s c.1 (inl (c.2, ap Whole c.3))
]
told_from slots limit history p Held h = elim (cases_Bool p.som) [
  | inl s ↦ let o = open_start slots limit history p s h in inl (s, inr (o.fits, inr (o.going, inr (o.room, refl))))
  | inr s ↦ let c = open_more slots limit history p s h in going slots limit history p Held c.0 s c.1 (inr (c.2, refl))
]
told_from slots limit history p (Dropped drop_cause.NotOpen) h = inr (h.0, inl (h.1, refl))
told_from slots limit history p (Dropped drop_cause.Number) h = later slots limit history p _ _ h (λ ps n. inl (n, refl))
told_from slots limit history p (Dropped drop_cause.Length) h = later slots limit history p _ _ h (λ ps n. inr (n.0, inl (n.1, refl)))
told_from slots limit history p (Dropped drop_cause.Limit) h = elim h [
  | inl l ↦ inl (l.0, inl (l.1, refl))
  | inr g ↦ later slots limit history p _ _ g (λ ps n. inr (n.0, inr (n.1, inl (n.2, refl))))
]
told_from slots limit history p (Dropped drop_cause.Full) h = inl (h.0, inr (h.2, inr (h.1, inl (h.3, refl))))

-- what is told is heard
as_answer : (slots limit : ℕ) (history : History) (p : PacketValue) (a b : Answer) → b ≡ a → Hears slots limit history p a → Hears slots limit history p b
as_answer slots limit history p a b e h = subst (Hears slots limit history p) (sym e) h

heard_start : (slots limit : ℕ) (history : History) (p : PacketValue) (b : Answer) → p.som ≡ true → ToldOfStart slots limit history p b → Hears slots limit history p b
heard_start slots limit history p b s t = elim t [
  | inl x ↦ as_answer slots limit history p _ b x.1 (inl (s, x.0))
  | inr x ↦ elim x.1 [
    | inl y ↦ as_answer slots limit history p _ b y.1 (comes_start_from slots limit history p s y.0 x.0)
    | inr y ↦ elim y.1 [
      | inl z ↦ as_answer slots limit history p _ b z.1 (s, y.0, x.0, z.0)
      | inr z ↦ as_answer slots limit history p _ b z.1 (open_start_from slots limit history p s (record { going = y.0; fits = x.0; room = z.0 }))
    ]
  ]
]

heard_more : (slots limit : ℕ) (history : History) (p : PacketValue) (b : Answer) (ps : List PacketValue) → p.som ≡ false → IsOpen slots limit history (key_of p) → ArePackets (last_of history (key_of p)) ps
    → ToldOfMore limit ps p b → Hears slots limit history p b
heard_more slots limit history p b ps s o a t = elim t [
  | inl x ↦ as_answer slots limit history p _ b x.1 (s, o, (ps, a, x.0))
  | inr x ↦ elim x.1 [
    | inl y ↦ as_answer slots limit history p _ b y.1 (s, o, (ps, a, (x.0, y.0)))
    | inr y ↦ elim y.1 [
      | inl z ↦ as_answer slots limit history p _ b z.1 (inr (s, o, (ps, a, (x.0, y.0, z.0))))
      | inr z ↦
          let c : Continues slots limit history p ps = record { opened = o; are = a; number = x.0; size = y.0; fits = z.0 } in
          elim z.1 [
            | inl w ↦ as_answer slots limit history p _ b w.1 (comes_more_from slots limit history p ps s c w.0)
            | inr w ↦ as_answer slots limit history p _ b w.1 (open_more_from slots limit history p ps s c w.0)
          ]
    ]
  ]
]

pub heard_from : (slots limit : ℕ) (history : History) (p : PacketValue) (b : Answer) → Told slots limit history p b → Hears slots limit history p b
heard_from slots limit history p b t = elim t [
  | inl h ↦ heard_start slots limit history p b h.0 h.1
  | inr h ↦ elim h.1 [
    | inl k ↦ as_answer slots limit history p _ b k.1 (h.0, k.0)
    | inr k ↦ heard_more slots limit history p b k.1.0 h.0 k.0 k.1.1 k.1.2
  ]
]

-- two answers are never heard at once
pub hears_one : (slots limit : ℕ) (history : History) (p : PacketValue) (a b : Answer) → Hears slots limit history p a → Hears slots limit history p b → a ≡ b
hears_one slots limit history p a b x y = told_one slots limit history p a b (told_from slots limit history p a x) (told_from slots limit history p b y)

pub hears_only : (slots limit : ℕ) (history : History) (p : PacketValue) (a : Answer) → Told slots limit history p a → HearsOnly slots limit history p a
hears_only slots limit history p a t = record {
  hears = heard_from slots limit history p a t;
  only = λ b h. hears_one slots limit history p b a h (heard_from slots limit history p a t);
}
