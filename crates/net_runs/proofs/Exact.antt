-- In a tidy rest of a run each message that comes is the one that was sent.
use Rattle.std.{proofs.Common.{◌≡◌, ◌⊎◌, ℕ, ◌*◌, ◌≤◌, List, [], ◌∷◌, length, Some, sym, ◌∙◌, subst, inl, inr}, specs.List.{AllByRecursion}, proofs.lemmas.Option.{same_Some}, proofs.lemmas.List.Elements.{All-from_recursion}}
use Rattle.mctp_transport.{specs.PacketValues.{PacketValue, KeyValue, key_of}, specs.Histories.{Input, Arrived, TimeUp, History, EachArrival, key_of_input, last_of, IsOpen}, proofs.Collecting.{collected_more, comes_from_such}, proofs.Sending.{joins_to_itself}}
use Rattle.net_tables.{specs.Routing.{Holds}, specs.TwoPlans.{Tables, one_plan}}
use Rattle.net_runs.{specs.States.{NetworkState, Flight, destination, slots, limit}, specs.Runs.{RunFrom, PutsIn}, specs.ExactMessages.{IsQuiet, Epoch, IsOfEpoch, TurnOfEpoch, IsTidyFrom, turns_of, TellsAsSent, RunsAsSentBy, RunsAsSent}, proofs.Nexts.{IsThere, HasMoved, IsNew, IsNext, MayBeGiven, step_is_next}, proofs.Promised.{TellsMessage, step_tells}}
use Rattle.plan_values.specs.declared.plan.Plan.{Plan}

module _ (unit : ℕ) (tables : Tables) (key : KeyValue) (d : ℕ) where
  -- What is kept within an epoch: each flight of the key to d is of the epoch, and so is each packet that is collected
  -- at d's node for the key, where it is open there.
  pub record IsExact (epoch : Epoch) (w : NetworkState) : Type 0 where
    pub flights : (number : ℕ) (f : Flight) → w.flight number ≡ Some f → key_of f.packet ≡ key → destination f ≡ d → IsOfEpoch unit epoch key d f.packet
    pub collected : (n : ℕ) → Holds tables.plan n d → IsOpen slots limit (w.history n) key → EachArrival (IsOfEpoch unit epoch key d) (last_of (w.history n) key)

  -- where the key is quiet, a new epoch may begin
  quiet_is_exact : (epoch : Epoch) (w : NetworkState) → IsQuiet tables.plan w key d → IsExact epoch w
  quiet_is_exact epoch w quiet = record {
    flights = λ number f is mine there. absurd (quiet.no_flight number f is mine there);
    collected = λ n holds opened. absurd (quiet.not_open n holds opened);
  }

  begins : (first now : Epoch) (w : NetworkState) → IsExact first w → (now ≡ first) ⊎ IsQuiet tables.plan w key d → IsExact now w
  begins first now w exact (inl same) = let P : Epoch → Type 0 = λ e. IsExact e w in subst P (sym same) exact
  begins first now w exact (inr quiet) = quiet_is_exact now w quiet

  -- a node holds one EID
  one_eid : (n e : ℕ) → Holds tables.plan n e → Holds tables.plan n d → e ≡ d
  one_eid n e one other = same_Some e d (sym one ∙ other)

  abbrev PutsOfEpoch : Epoch → (PacketValue → Type 0) → Type 0
  PutsOfEpoch epoch puts = (p : PacketValue) → puts p → key_of p ≡ key → p.destination ≡ d → IsOfEpoch unit epoch key d p

  flight_of_epoch : (epoch : Epoch) (w : NetworkState) (puts : PacketValue → Type 0) (g : Flight) → IsExact epoch w → PutsOfEpoch epoch puts
      → IsThere w g ⊎ (HasMoved tables w g ⊎ IsNew puts g) → key_of g.packet ≡ key → destination g ≡ d → IsOfEpoch unit epoch key d g.packet
  flight_of_epoch epoch w puts g exact tidy (inl (number, is)) mine there = exact.flights number g is mine there
  flight_of_epoch epoch w puts g exact tidy (inr (inl moved)) mine there =
      let P : Flight → Type 0 = λ h. key_of h.packet ≡ key → destination h ≡ d → IsOfEpoch unit epoch key d h.packet in
      subst P (sym moved.is) (exact.flights moved.there.0 moved.flight moved.there.1) mine there
  flight_of_epoch epoch w puts g exact tidy (inr (inr new)) mine there =
      let P : Flight → Type 0 = λ h. key_of h.packet ≡ key → destination h ≡ d → IsOfEpoch unit epoch key d h.packet in
      subst P (sym new.is) (tidy new.packet new.put) mine there

  given_of_epoch : (epoch : Epoch) (w : NetworkState) (n : ℕ) (i : Input) → IsExact epoch w → Holds tables.plan n d → MayBeGiven tables w n i → key_of_input i ≡ key
      → EachArrival (IsOfEpoch unit epoch key d) (i ∷ [])
  given_of_epoch epoch w n (Arrived p) exact holds (there, (f, (number, is), same)) mine =
      let P : PacketValue → Type 0 = λ q. key_of q ≡ key → q.destination ≡ d → IsOfEpoch unit epoch key d q in
      (subst P same (exact.flights number f is) mine (one_eid n p.destination there holds), tt)
  given_of_epoch epoch w n (TimeUp k) exact holds may mine = tt

  -- each step keeps it, where what it puts in is of the epoch
  next_is_exact : (epoch : Epoch) (w : NetworkState) (puts : PacketValue → Type 0) (new : NetworkState) → IsExact epoch w → PutsOfEpoch epoch puts → IsNext tables w puts new
      → IsExact epoch new
  next_is_exact epoch w puts new exact tidy next = record {
    flights = λ number g is mine there. flight_of_epoch epoch w puts g exact tidy (next.flights number g is) mine there;
    collected = λ n holds opened.
        let C : History → Type 0 = λ h. IsOpen slots limit h key → EachArrival (IsOfEpoch unit epoch key d) (last_of h key) in
        elim (next.given n) [
          | inl same ↦ subst C (sym same) (exact.collected n holds) opened
          | inr (i, more, may) ↦
              subst C (sym more)
              (collected_more (IsOfEpoch unit epoch key d) slots limit (w.history n) i key (exact.collected n holds) (given_of_epoch epoch w n i exact holds may))
              opened
        ];
  }

  -- a message that a turn tells within an epoch is the epoch's
  told_is_sent : (epoch : Epoch) (w : NetworkState) (n : ℕ) (message : List ℕ) → IsExact epoch w → Holds tables.plan n d → length epoch.message ≤ 5 * unit
      → TellsMessage tables w n key message → message ≡ epoch.message
  told_is_sent epoch w n message exact holds short told =
      let p = told.flight.packet in
      let C : KeyValue → Type 0 = λ k. IsOpen slots limit (w.history n) k → EachArrival (IsOfEpoch unit epoch key d) (last_of (w.history n) k) in
      let new : IsOfEpoch unit epoch key d p = exact.flights told.number told.flight told.stands (sym told.mine) (one_eid n p.destination told.holds holds) in
      let (ps, joined, all) = comes_from_such (IsOfEpoch unit epoch key d) slots limit (w.history n) p message (subst C told.mine (exact.collected n holds)) new told.comes in
      joins_to_itself unit epoch.message d key epoch.first_number ps message short all joined

  each_tells : (w : NetworkState) (first : Epoch) (turns : List TurnOfEpoch) → IsExact first w → RunFrom tables w (turns_of turns) → IsTidyFrom unit tables.plan key d w first turns
      → AllByRecursion (TellsAsSent unit tables.plan key d) turns
  each_tells w first [] exact run tidy = tt
  each_tells w first (turn ∷ turns) exact (step, rest) (starts, puts, later) =
      let now = begins first turn.1 w exact starts in
      let next = step_is_next tables w turn.0.event turn.0.outcome turn.0.after step in (
        λ number n message holds short is.
            told_is_sent turn.1 w n message now holds short (step_tells tables w turn.0.event turn.0.outcome number n key message turn.0.after step is),
        each_tells turn.0.after turn.1 turns (next_is_exact turn.1 w (PutsIn tables.plan turn.0) turn.0.after now puts next) rest later,
      )

  pub sent_by : (w : NetworkState) → RunsAsSentBy unit tables key d w
  sent_by w first turns quiet run tidy =
      All-from_recursion (TellsAsSent unit tables.plan key d) turns (each_tells w first turns (quiet_is_exact first w quiet) run tidy)

pub runs_as_sent : (unit : ℕ) (plan : Plan) (key : KeyValue) (d : ℕ) (w : NetworkState) → RunsAsSent unit plan key d w
runs_as_sent unit plan key d w = sent_by unit (one_plan plan) key d w
