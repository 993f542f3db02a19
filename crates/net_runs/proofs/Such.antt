-- What holds of each packet of a key on its way to d, and of each that is collected there, is kept along a run whose
-- puts under the key have it.
use Rattle.std.{proofs.Common.{◌≡◌, ◌⊎◌, ℕ, List, [], ◌∷◌, Some, sym, ◌∙◌, subst, inl, inr}, specs.List.{AllByRecursion}, proofs.lemmas.Option.{same_Some}}
use Rattle.mctp_transport.{specs.PacketValues.{PacketValue, KeyValue, key_of}, specs.Messages.{Joined}, specs.Histories.{Input, Arrived, TimeUp, History, EachArrival, key_of_input, last_of, IsOpen}, proofs.Collecting.{collected_more, comes_from_such}}
use Rattle.net_tables.{specs.TwoPlans.{Tables}, specs.Routing.{Holds}}
use Rattle.net_runs.{specs.States.{NetworkState, Flight, destination, slots, limit}, specs.ExactMessages.{IsQuiet}, proofs.Nexts.{IsThere, HasMoved, IsNew, IsNext, MayBeGiven}, proofs.Promised.{TellsMessage}}

module _ (tables : Tables) (key : KeyValue) (d : ℕ) (P : PacketValue → Type 0) where
  -- each flight of the key to d is such, and so is each packet that is collected for it where it is open
  pub record AreSuch (w : NetworkState) : Type 0 where
    pub flights : (number : ℕ) (f : Flight) → w.flight number ≡ Some f → key_of f.packet ≡ key → destination f ≡ d → P f.packet
    pub collected : (n : ℕ) → Holds tables.plan n d → IsOpen slots limit (w.history n) key → EachArrival P (last_of (w.history n) key)

  pub quiet_are_such : (w : NetworkState) → IsQuiet tables.plan w key d → AreSuch w
  quiet_are_such w quiet = record {
    flights = λ number f is mine there. absurd (quiet.no_flight number f is mine there);
    collected = λ n holds opened. absurd (quiet.not_open n holds opened);
  }

  one_eid : (n e : ℕ) → Holds tables.plan n e → Holds tables.plan n d → e ≡ d
  one_eid n e one other = same_Some e d (sym one ∙ other)

  abbrev pub PutsSuch : (PacketValue → Type 0) → Type 0
  PutsSuch puts = (p : PacketValue) → puts p → key_of p ≡ key → p.destination ≡ d → P p

  such_flight : (w : NetworkState) (puts : PacketValue → Type 0) (g : Flight) → AreSuch w → PutsSuch puts
      → IsThere w g ⊎ (HasMoved tables w g ⊎ IsNew puts g) → key_of g.packet ≡ key → destination g ≡ d → P g.packet
  such_flight w puts g such only (inl (number, is)) mine there = such.flights number g is mine there
  such_flight w puts g such only (inr (inl moved)) mine there =
      let Q : Flight → Type 0 = λ h. key_of h.packet ≡ key → destination h ≡ d → P h.packet in
      subst Q (sym moved.is) (such.flights moved.there.0 moved.flight moved.there.1) mine there
  such_flight w puts g such only (inr (inr new)) mine there =
      let Q : Flight → Type 0 = λ h. key_of h.packet ≡ key → destination h ≡ d → P h.packet in
      subst Q (sym new.is) (only new.packet new.put) mine there

  such_given : (w : NetworkState) (n : ℕ) (i : Input) → AreSuch w → Holds tables.plan n d → MayBeGiven tables w n i → key_of_input i ≡ key → EachArrival P (i ∷ [])
  such_given w n (Arrived p) such holds (there, (f, (number, is), same)) mine =
      let Q : PacketValue → Type 0 = λ q. key_of q ≡ key → q.destination ≡ d → P q in
      (subst Q same (such.flights number f is) mine (one_eid n p.destination there holds), tt)
  such_given w n (TimeUp k) such holds may mine = tt

  pub next_are_such : (w : NetworkState) (puts : PacketValue → Type 0) (new : NetworkState) → AreSuch w → PutsSuch puts → IsNext tables w puts new → AreSuch new
  next_are_such w puts new such only next = record {
    flights = λ number g is mine there. such_flight w puts g such only (next.flights number g is) mine there;
    collected = λ n holds opened.
        let C : History → Type 0 = λ h. IsOpen slots limit h key → EachArrival P (last_of h key) in
        elim (next.given n) [
          | inl same ↦ subst C (sym same) (such.collected n holds) opened
          | inr (i, more, may) ↦
              subst C (sym more)
              (collected_more P slots limit (w.history n) i key (such.collected n holds) (such_given w n i such holds may))
              opened
        ];
  }

  -- a message that is told joins such packets, one of which is on its way
  pub told_joins_such : (w : NetworkState) (n : ℕ) (message : List ℕ) → AreSuch w → Holds tables.plan n d → TellsMessage tables w n key message
      → (p : PacketValue) × (ps : List PacketValue) × P p × Joined ps message × AllByRecursion P ps
  told_joins_such w n message such holds told =
      let p = told.flight.packet in
      let C : KeyValue → Type 0 = λ k. IsOpen slots limit (w.history n) k → EachArrival P (last_of (w.history n) k) in
      let new : P p = such.flights told.number told.flight told.stands (sym told.mine) (one_eid n p.destination told.holds holds) in
      let (ps, joined, all) = comes_from_such P slots limit (w.history n) p message (subst C told.mine (such.collected n holds)) new told.comes in
      (p, ps, new, joined, all)
