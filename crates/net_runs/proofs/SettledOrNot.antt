-- A key is settled or not, where flights have numbers up to the last one made.
use Rattle.std.{proofs.Common.{◌≡◌, ◌≢◌, ℕ, ◌+◌, Bool, true, false, length, Option, Some, None, refl, ap, subst, inl, inr, arith}, specs.Prelude.{All, ◌↔◌}, proofs.lemmas.Option.{same_Some}}
use Rattle.mctp_transport.{specs.PacketValues.{KeyValue, key_of}, specs.Histories.{IsOpen}, proofs.SomeAnswers.{open_or_not}}
use Rattle.plan_values.specs.declared.plan.Plan.{Plan}
use Rattle.net_tables.{specs.Routing.{Holds}, proofs.Elements.{holder_within}}
use Rattle.net_runs.{specs.Termini.{TerminusState, WaitingMessage}, specs.States.{NetworkState, Flight, destination, slots, limit}, specs.ExactMessages.{IsSettled}, specs.Walkers.{WalkerValue, AreSettled, asking_key, answering_key}, specs.WalkedGoing.{HasNumberedFlights}, proofs.Steps.{holds_or_not}}
use Rattle.pdr_repository.{proofs.Deciding.{OrNot, both_or_not, implied_or_not, not_or_not, same_or_not}, proofs.Searching.{all_or_not, items_or_not, three_or_not}}

flag_or_not : (a b : Bool) → OrNot (a ≡ b)
flag_or_not true true = inl refl
flag_or_not true false = inr (λ e. cc)
flag_or_not false true = inr (λ e. cc)
flag_or_not false false = inl refl

pub key_or_not : (a b : KeyValue) → OrNot (a ≡ b)
key_or_not a b = elim (three_or_not _ _ _ (same_or_not a.source b.source) (same_or_not a.tag b.tag) (flag_or_not a.owner b.owner)) [
  | inl (source, tag, owner) ↦ inl (λ i. record { source = source i; tag = tag i; owner = owner i })
  | inr not ↦ inr (λ same. not (ap (λ (k : KeyValue). k.source) same, ap (λ (k : KeyValue). k.tag) same, ap (λ (k : KeyValue). k.owner) same))
]

-- what is said of the flight with a number, of the node that holds an EID, and of its terminus
flight_or_not : (o : Option Flight) (P : Flight → Type 0) → ((f : Flight) → OrNot (P f)) → OrNot ((f : Flight) → o ≡ Some f → P f)
flight_or_not None P test = inl (λ f is. absurd (cc))
flight_or_not (Some g) P test = elim (test g) [ inl is ↦ inl (λ f same. subst P (same_Some g f same) is) | inr not ↦ inr (λ all. not (all g refl)) ]

terminus_or_not : (o : Option TerminusState) (P : TerminusState → Type 0) → ((t : TerminusState) → OrNot (P t)) → OrNot ((t : TerminusState) → o ≡ Some t → P t)
terminus_or_not None P test = inl (λ t is. absurd (cc))
terminus_or_not (Some s) P test = elim (test s) [ inl is ↦ inl (λ t same. subst P (same_Some s t same) is) | inr not ↦ inr (λ all. not (all s refl)) ]

-- a flight of another key or to elsewhere, and a terminus where nothing of the key waits
abbrev IsOther : KeyValue → ℕ → Flight → Type 0
IsOther key d f = key_of f.packet ≡ key → destination f ≢ d

abbrev Rests : KeyValue → TerminusState → Type 0
Rests key t = All (λ message. message.key ≢ key) t.waiting

module _ (plan : Plan) (w : NetworkState) (numbered : HasNumberedFlights w) where
  settled_or_not : (key : KeyValue) (d : ℕ) → OrNot (IsSettled plan w key d)
  settled_or_not key d = elim no_flight [
    | inr some ↦ inr (λ settled. some settled.quiet.no_flight)
    | inl none ↦ elim not_open [
      | inr opened ↦ inr (λ settled. opened settled.quiet.not_open)
      | inl closed ↦ elim none_waits [
        | inr waits ↦ inr (λ settled. waits (λ n holds t is. settled.none_waits n t holds is))
        | inl rests ↦ inl (record { quiet = record { no_flight = none; not_open = closed }; none_waits = λ n t holds is. rests n holds t is })
      ]
    ]
  ]
    where
      no_flight : OrNot ((number : ℕ) (f : Flight) → w.flight number ≡ Some f → IsOther key d f)
      no_flight =
          all_or_not (λ number. (f : Flight) → w.flight number ≡ Some f → IsOther key d f)
          (λ number. flight_or_not (w.flight number) (IsOther key d) (λ f. implied_or_not _ _ (key_or_not (key_of f.packet) key) (not_or_not _ (same_or_not (destination f) d)))) (w.made + 1)
          (λ number large f is. let small = numbered number f is in absurd (omega arith))

      open_there : (n : ℕ) → OrNot (IsOpen slots limit (w.history n) key)
      open_there n = by (open_or_not slots limit (w.history n) key)
        where
          by : (b : Bool) × ((b ≡ true) ↔ IsOpen slots limit (w.history n) key) → OrNot (IsOpen slots limit (w.history n) key)
          by (true, tells) = inl (tells.0 refl)
          by (false, tells) = inr (λ opened. let e : false ≡ true = tells.1 opened in cc)

      not_open : OrNot ((n : ℕ) → Holds plan n d → ¬ IsOpen slots limit (w.history n) key)
      not_open =
          all_or_not (λ n. Holds plan n d → ¬ IsOpen slots limit (w.history n) key) (λ n. implied_or_not _ _ (holds_or_not plan n d) (not_or_not _ (open_there n)))
          (length plan.nodes.items) (λ n large holds. let inside = holder_within plan n d holds in absurd (omega arith))

      none_waits : OrNot ((n : ℕ) → Holds plan n d → (t : TerminusState) → w.terminus n ≡ Some t → Rests key t)
      none_waits =
          all_or_not (λ n. Holds plan n d → (t : TerminusState) → w.terminus n ≡ Some t → Rests key t)
          (λ n. implied_or_not _ _ (holds_or_not plan n d)
          (terminus_or_not (w.terminus n) (Rests key) (λ t. items_or_not (λ (m : WaitingMessage). m.key ≢ key) (λ m. not_or_not _ (key_or_not m.key key)) t.waiting)))
          (length plan.nodes.items) (λ n large holds. let inside = holder_within plan n d holds in absurd (omega arith))

  pub both_settled_or_not : (own : ℕ) (walker : WalkerValue) → OrNot (AreSettled plan w own walker)
  both_settled_or_not own walker = both_or_not _ _ (settled_or_not (asking_key own walker) walker.eid) (settled_or_not (answering_key walker) own)
