-- What holds of each packet of a key that is given holds of what is collected for the key, as long as it is open.
use Rattle.std.{proofs.Common.{◌≡◌, ◌⊎◌, true, List, [], ◌∷◌, sym, subst, inl, inr}, specs.List.{AllByRecursion}, proofs.lemmas.Bool.{cases_Bool}}
use Rattle.mctp_transport.{specs.PacketValues.{PacketValue, KeyValue, key_of}, specs.Messages.{Joined}, specs.Histories.{Input, Arrived, TimeUp, History, EachArrival, after, key_of_input, last_of, IsOpen, Comes}, proofs.FirstIndexes.{key_cases, same_key-same}, proofs.Arrivals.{EachArrival-append, packets_arrived}, proofs.LastStarts.{last-other, last-start, last-more}, proofs.Openness.{open_other, open_expired, open_more, has_started, comes_with}}

module _ (P : PacketValue → Type 0) (slots limit : _) where
  -- with a packet of the open key
  collected_packet : (history : History) (p : PacketValue) → (IsOpen slots limit history (key_of p) → EachArrival P (last_of history (key_of p))) → P p
      → (p.som ≡ true) ⊎ IsOpen slots limit history (key_of p) → EachArrival P (last_of (after history (Arrived p)) (key_of p))
  collected_packet history p collected new begun =
      let own = same_key-same (key_of p) in
      let E : List Input → Type 0 = EachArrival P in
      elim (cases_Bool p.som) [
        | inl starts ↦ subst E (sym (last-start history (Arrived p) (key_of p) own starts)) (new, tt)
        | inr later ↦ elim begun [
          | inl starts ↦ subst E (sym (last-start history (Arrived p) (key_of p) own starts)) (new, tt)
          | inr opened ↦
              subst E (sym (last-more history (Arrived p) (key_of p) own later (has_started slots limit history (key_of p) opened)))
              (EachArrival-append P (last_of history (key_of p)) (Arrived p ∷ []) (collected opened) (new, tt))
        ]
      ]

  own_collected : (history : History) (i : Input) → (IsOpen slots limit history (key_of_input i) → EachArrival P (last_of history (key_of_input i)))
      → EachArrival P (i ∷ []) → IsOpen slots limit (after history i) (key_of_input i) → EachArrival P (last_of (after history i) (key_of_input i))
  own_collected history (TimeUp key) collected new opened = absurd (open_expired slots limit history key opened)
  own_collected history (Arrived p) collected new opened = collected_packet history p collected new.0 (elim (cases_Bool p.som) [
    | inl starts ↦ inl starts
    | inr later ↦ inr (open_more slots limit history p later opened).1.opened
  ])

  -- one input more
  pub collected_more : (history : History) (i : Input) (key : KeyValue) → (IsOpen slots limit history key → EachArrival P (last_of history key))
      → (key_of_input i ≡ key → EachArrival P (i ∷ [])) → IsOpen slots limit (after history i) key → EachArrival P (last_of (after history i) key)
  collected_more history i key collected new opened = elim (key_cases (key_of_input i) key) [
    | inl (same, is) ↦
        let C : KeyValue → Type 0 = λ k. (IsOpen slots limit history k → EachArrival P (last_of history k)) → IsOpen slots limit (after history i) k → EachArrival P (last_of (after history i) k) in
        subst C is (λ before now. own_collected history i before (new is) now) collected opened
    | inr (other, apart) ↦
        let E : List Input → Type 0 = EachArrival P in
        subst E (sym (last-other history i key other)) (collected ((open_other slots limit history i key other).0 opened))
  ]

  -- what comes joins such packets
  pub comes_from_such : (history : History) (p : PacketValue) (message : _) → (IsOpen slots limit history (key_of p) → EachArrival P (last_of history (key_of p))) → P p
      → Comes slots limit (after history (Arrived p)) message → (ps : List PacketValue) × Joined ps message × AllByRecursion P ps
  comes_from_such history p message collected new came =
      let c = comes_with slots limit history p message came in (
        c.packets,
        c.joined,
        packets_arrived P (last_of (after history (Arrived p)) (key_of p)) c.packets c.since_start (collected_packet history p collected new c.begun),
      )
