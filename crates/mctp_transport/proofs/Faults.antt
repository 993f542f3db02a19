-- What it means of the packets since the start that a packet goes on from a held message, or not.
use Rattle.std.{proofs.Common.{◌≡◌, ℕ, ◌+◌, ◌%◌, ◌<◌, ◌≤◌, true, false, not, ◌&&◌, ◌||◌, List, length, Option, Some, None, sym, ap, ◌∙◌, arith, inl, inr}, specs.Prelude.{nat_lt, nat_eq}, proofs.lemmas.Bool.{cases_Bool, eqb-true, eqb-false, ltb-true, ltb-false, or_cases, and_parts, not-true, or_parts}}
use Rattle.mctp_transport.{specs.PacketValues.{PacketValue}, specs.Messages.{payloads_of, NumberFollows, LengthFits}, specs.Histories.{History}, specs.Tables.{Partial, HoldsLast}, specs.TableChanges.{fault_at}, specs.declared.drop_cause.DropCause.{DropCause}, proofs.FirstIndexes.{get_first, get_end}}
use Rattle.mctp_transport.specs.declared.drop_cause.DropCause.TheVariants as drop_cause

-- what each cause means of the packets since the start
abbrev pub Means : ℕ → List PacketValue → PacketValue → Option DropCause → Type 0
Means limit ps p None = NumberFollows ps p × LengthFits ps p × (length (payloads_of ps) + length p.payload ≤ limit)
Means limit ps p (Some drop_cause.Number) = ¬ NumberFollows ps p
Means limit ps p (Some drop_cause.Length) = NumberFollows ps p × ¬ LengthFits ps p
Means limit ps p (Some drop_cause.Limit) = NumberFollows ps p × LengthFits ps p × (limit < length (payloads_of ps) + length p.payload)
Means limit ps p (Some drop_cause.NotOpen) = ⊥
Means limit ps p (Some drop_cause.Full) = ⊥

number_yes : (history : History) (q : Partial) (h : HoldsLast history q) (p : PacketValue) → nat_eq p.number ((q.number + 1) % 4) ≡ true → NumberFollows h.packets p
number_yes history q h p e = λ i r at a. eqb-true p.number ((q.number + 1) % 4) e ∙ ap (λ n. (n + 1) % 4) (h.number i r at a)

number_no : (history : History) (q : Partial) (h : HoldsLast history q) (p : PacketValue) → 0 < length h.packets → nat_eq p.number ((q.number + 1) % 4) ≡ false → ¬ NumberFollows h.packets p
number_no history q h p some e follows =
    let l = get_end h.packets some in
    eqb-false p.number ((q.number + 1) % 4) e (follows l.0 l.1 l.2 l.3 ∙ sym (ap (λ n. (n + 1) % 4) (h.number l.0 l.1 l.2 l.3)))

length_yes : (history : History) (q : Partial) (h : HoldsLast history q) (p : PacketValue)
    → (nat_lt q.unit (length p.payload) || (not p.eom && nat_lt (length p.payload) q.unit)) ≡ false → LengthFits h.packets p
length_yes history q h p e =
    let n = or_parts (nat_lt q.unit (length p.payload)) (not p.eom && nat_lt (length p.payload) q.unit) e in
    let most = ltb-false q.unit (length p.payload) n.0 in
    λ f a.
    let unit = h.unit f a in
    (λ going. let least = ltb-false (length p.payload) q.unit (rw going at n.1) in omega arith, omega arith)

length_no : (history : History) (q : Partial) (h : HoldsLast history q) (p : PacketValue) → 0 < length h.packets
    → (nat_lt q.unit (length p.payload) || (not p.eom && nat_lt (length p.payload) q.unit)) ≡ true → ¬ LengthFits h.packets p
length_no history q h p some e fits =
    let f = get_first h.packets some in
    let unit = h.unit f.0 f.1 in
    let both = fits f.0 f.1 in
    let most = both.1 in
    elim (or_cases (nat_lt q.unit (length p.payload)) (not p.eom && nat_lt (length p.payload) q.unit) e) [
      | inl y ↦ let over = ltb-true q.unit (length p.payload) y in omega arith
      | inr y ↦
          let parts = and_parts (not p.eom) (nat_lt (length p.payload) q.unit) y in
          let under = ltb-true (length p.payload) q.unit parts.1 in
          let same = both.0 (not-true p.eom parts.0) in
          omega arith
    ]

pub means : (limit : ℕ) (history : History) (q : Partial) (h : HoldsLast history q) (p : PacketValue) → 0 < length h.packets → Means limit h.packets p (fault_at limit q p)
means limit history q h p some = elim (cases_Bool (nat_eq p.number ((q.number + 1) % 4))) [
  | inr n ↦ rw n (number_no history q h p some n)
  | inl y ↦ elim (cases_Bool (nat_lt q.unit (length p.payload) || (not p.eom && nat_lt (length p.payload) q.unit))) [
    | inl z ↦ rw (y, z) (number_yes history q h p y, length_no history q h p some z)
    | inr z ↦
        let size : length q.bytes ≡ length (payloads_of h.packets) = ap length h.bytes in
        elim (cases_Bool (nat_lt limit (length q.bytes + length p.payload))) [
          | inl w ↦ let over = ltb-true limit (length q.bytes + length p.payload) w in rw (y, z, w) (number_yes history q h p y, length_yes history q h p z, omega arith)
          | inr w ↦ let fits = ltb-false limit (length q.bytes + length p.payload) w in rw (y, z, w) (number_yes history q h p y, length_yes history q h p z, omega arith)
        ]
  ]
]
