-- What is promised of all runs of the network holds of all runs with walkers.
use Rattle.std.{proofs.Common.{◌≡◌, ◌≢◌, ◌⊎◌, ℕ, ◌+◌, ◌≤◌, List, [], ◌∷◌, ◌++◌, length, Option, Some, refl, sym, ap, ◌∙◌, subst, inl, inr}, proofs.lemmas.List.Elements.{All-from_recursion, recursion_from_All, All-weaker}}
use Rattle.mctp_transport.{specs.PacketValues.{PacketValue, KeyValue, key_of}, specs.Histories.{Comes}, specs.Hearing.{Whole}}
use Rattle.plan_values.specs.declared.certificate.Certificate.{Certificate}
use Rattle.net_tables.{specs.Routing.{Holds}, specs.Ranks.{rank}, specs.TwoPlans.{Tables}}
use Rattle.net_runs.{specs.States.{NetworkState, Flight, destination, at_start, slots, limit}, specs.Events.{EventValue, Move, OutcomeValue, Entered, Stopped, Lost}, specs.Runs.{Turn, RunFrom, RunOf, after_all, reached, WasPutIn}, specs.Headline.{EntersItsHolderOnly, StaysWithinHops, JoinsPackets, HasPlannedRecords, HeadlineOf}, specs.Deliveries.{IsDeliverable, moves_of, IsNotLost, HasEntered, DeliversBy}, specs.Walkers.{WalkedState, WalkedEvent, Happening, WalkedOutcome, Happened, Handed, walked_at_start}, specs.WalkedRuns.{WalkedStep, WalkedTurn, WalkedRunOf, walked_after}, specs.Below.{HasRunBelow}, specs.WalkedPromises.{WasPutInWalked, JoinsPacketsWalked, network_reached, WalkedHeadline, walked_moves_of, IsNotLostWalked, HasEnteredWalked, IsOnItsWayWalked, WalkedDelivers}, proofs.Below.{runs_below, walked_splits, walked_after_splits, run_joins, after_joins, happened_below, puts_below, moves_below, not_lost_below, entered_below}}

same_event : (a b : EventValue) → ◌≡◌ {A = WalkedEvent} (Happening a) (Happening b) → a ≡ b
same_event a b e = cc

module _ (tables : Tables) (cert : Certificate) where
  -- the run below from the start
  below : (turns : List WalkedTurn) → WalkedRunOf tables cert turns → HasRunBelow tables (walked_at_start tables.plan cert) turns
  below turns run = runs_below tables (walked_at_start tables.plan cert) turns run

  -- what holds at the end of each run of the network
  at_its_end : (P : NetworkState → Type 0) → ((turns : List Turn) → RunOf tables cert turns → P (reached tables.plan cert turns))
      → (turns : List WalkedTurn) → WalkedRunOf tables cert turns → P (network_reached tables.plan cert turns)
  at_its_end P all turns run = let h = below turns run in subst P h.reaches (all h.below h.run)

  joins_above : (turns : List WalkedTurn) (h : HasRunBelow tables (walked_at_start tables.plan cert) turns) (n : ℕ) (key : KeyValue) (message : List ℕ) → JoinsPackets tables.plan h.below n key message
      → JoinsPacketsWalked tables.plan turns n key message
  joins_above turns h n key message (ps, joined, all) =
      let P : PacketValue → Type 0 = λ p. WasPutIn tables.plan h.below p × Holds tables.plan n p.destination × (key_of p ≡ key) in
      let Q : PacketValue → Type 0 = λ p. WasPutInWalked tables.plan turns p × Holds tables.plan n p.destination × (key_of p ≡ key) in
      (ps, joined, All-weaker P Q (λ p g. (puts_below tables (walked_at_start tables.plan cert) turns h.below h.alike p g.0, g.1, g.2)) ps all)

  -- a last turn with which something happens to the network, and the run below up to it
  record HasLast (earlier : List WalkedTurn) (turn : WalkedTurn) (outcome : OutcomeValue) : Type 0 where
    before : HasRunBelow tables (walked_at_start tables.plan cert) earlier
    event : EventValue
    is : turn.event ≡ Happening event
    run : RunOf tables cert (before.below ++ record { event = event; outcome = outcome; after = turn.after.network } ∷ [])

  last_below : (earlier : List WalkedTurn) (turn : WalkedTurn) (outcome : OutcomeValue) (handed : Option Handed) → WalkedRunOf tables cert (earlier ++ turn ∷ []) → turn.outcome ≡ Happened outcome handed
      → HasLast earlier turn outcome
  last_below earlier turn outcome handed run is =
      let parts = walked_splits tables (walked_at_start tables.plan cert) earlier (turn ∷ []) run in
      let before = below earlier parts.0 in
      let w = walked_after (walked_at_start tables.plan cert) earlier in
      let S : WalkedOutcome → Type 0 = λ o. WalkedStep tables w turn.event o turn.after in
      let (event, same, step) = happened_below tables w turn.event outcome handed turn.after (subst S is parts.1.0) in
      let last : Turn = record { event = event; outcome = outcome; after = turn.after.network } in
      let R : NetworkState → Type 0 = λ u. RunFrom tables u (last ∷ []) in
      record {
        before = before;
        event = event;
        is = same;
        run = run_joins tables (at_start tables.plan cert) before.below (last ∷ []) before.run (subst R (sym before.reaches) (step, tt));
      }

  pub headline_above : HeadlineOf tables cert → WalkedHeadline tables cert
  headline_above headline = record {
    packets = record {
      enters = at_its_end (EntersItsHolderOnly tables.plan) headline.packets.enters;
      hops = at_its_end (StaysWithinHops cert) headline.packets.hops;
      joins = λ turns run n message comes.
          let h = below turns run in
          let C : NetworkState → Type 0 = λ u. Comes slots limit (u.history n) message in
          let (key, joined) = headline.packets.joins h.below h.run n message (subst C (sym h.reaches) comes) in
          (key, joins_above turns h n key message joined);
      tells = λ earlier turn run number n key message handed is.
          let last = last_below earlier turn (Entered number n key (Whole message)) handed run is in
          joins_above earlier last.before n key message
          (headline.packets.tells last.before.below (record { event = last.event; outcome = Entered number n key (Whole message); after = turn.after.network }) last.run number n key message refl);
    };
    records = at_its_end (HasPlannedRecords tables.plan cert) headline.records;
    walks = headline.walks;
  }

  -- a run in two parts, and the runs below them
  record HasTwo (earlier later : List WalkedTurn) : Type 0 where
    first : HasRunBelow tables (walked_at_start tables.plan cert) earlier
    then_ : HasRunBelow tables (walked_after (walked_at_start tables.plan cert) earlier) later
    run : RunOf tables cert (first.below ++ then_.below)
    reaches : reached tables.plan cert (first.below ++ then_.below) ≡ network_reached tables.plan cert (earlier ++ later)

  two_below : (earlier later : List WalkedTurn) → WalkedRunOf tables cert (earlier ++ later) → HasTwo earlier later
  two_below earlier later run =
      let w = walked_after (walked_at_start tables.plan cert) earlier in
      let parts = walked_splits tables (walked_at_start tables.plan cert) earlier later run in
      let first = below earlier parts.0 in
      let second = runs_below tables w later parts.1 in
      let R : NetworkState → Type 0 = λ u. RunFrom tables u second.below in
      let A : NetworkState → Type 0 = λ u. after_all u second.below ≡ (walked_after w later).network in
      record {
        first = first;
        then_ = second;
        run = run_joins tables (at_start tables.plan cert) first.below second.below first.run (subst R (sym first.reaches) second.run);
        reaches = after_joins (at_start tables.plan cert) first.below second.below ∙ subst A (sym first.reaches) second.reaches
            ∙ ap (λ (u : WalkedState). u.network) (sym (walked_after_splits (walked_at_start tables.plan cert) earlier later));
      }

  module _ (delivers : DeliversBy tables cert) (earlier later : List WalkedTurn) (number : ℕ) (f : Flight) (run : WalkedRunOf tables cert (earlier ++ later))
      (stands : (network_reached tables.plan cert earlier).flight number ≡ Some f) (deliverable : IsDeliverable tables f) (kept : IsNotLostWalked number later) where
    stood : (h : HasTwo earlier later) → (reached tables.plan cert h.first.below).flight number ≡ Some f
    stood h = let F : NetworkState → Type 0 = λ u. u.flight number ≡ Some f in subst F (sym h.first.reaches) stands

    not_lost : (h : HasTwo earlier later) → IsNotLost number h.then_.below
    not_lost h =
        let w = walked_after (walked_at_start tables.plan cert) earlier in
        All-from_recursion (λ (b : Turn). b.outcome ≢ Lost number) h.then_.below
        (not_lost_below tables number w later h.then_.below h.then_.alike (recursion_from_All (λ (turn : WalkedTurn). (handed : Option Handed) → turn.outcome ≢ Happened (Lost number) handed) later kept))

    many : (h : HasTwo earlier later) → length (moves_of number h.then_.below) ≡ length (walked_moves_of number later)
    many h = moves_below tables number (walked_after (walked_at_start tables.plan cert) earlier) later h.then_.below h.then_.alike

    entered : (h : HasTwo earlier later) → HasEntered tables.plan (destination f) number h.then_.below → HasEnteredWalked tables.plan (destination f) number later
    entered h e = entered_below tables (destination f) number e.node e.key e.answer e.holds (walked_after (walked_at_start tables.plan cert) earlier) later h.then_.below h.then_.alike
        e.index e.turn e.there e.enters

    stays_above : IsOnItsWayWalked number f later (network_reached tables.plan cert (earlier ++ later)) ⊎ HasEnteredWalked tables.plan (destination f) number later
    stays_above =
        let h = two_below earlier later run in
        elim (delivers.stays h.first.below h.then_.below number f h.run (stood h) deliverable (not_lost h)) [
          | inl way ↦
              let F : NetworkState → Type 0 = λ u. u.flight number ≡ Some way.flight in
              inl (record {
                flight = way.flight;
                stands = subst F h.reaches way.stands;
                packet = way.packet;
                origin = way.origin;
                hops = way.hops ∙ ap (λ m. f.hops + m) (many h);
              })
          | inr e ↦ inr (entered h e)
        ]

    enters_above : rank cert f.origin (destination f) + 1 ≤ f.hops + length (walked_moves_of number later) → HasEnteredWalked tables.plan (destination f) number later
    enters_above enough =
        let h = two_below earlier later run in
        let M : ℕ → Type 0 = λ m. rank cert f.origin (destination f) + 1 ≤ f.hops + m in
        entered h (delivers.enters h.first.below h.then_.below number f h.run (stood h) deliverable (not_lost h) (subst M (sym (many h)) enough))

    most_above : f.hops + length (walked_moves_of number later) ≤ rank cert f.origin (destination f) + 1
    most_above =
        let h = two_below earlier later run in
        let M : ℕ → Type 0 = λ m. f.hops + m ≤ rank cert f.origin (destination f) + 1 in
        subst M (many h) (delivers.most h.first.below h.then_.below number f h.run (stood h) deliverable (not_lost h))

  pub delivers_above : DeliversBy tables cert → WalkedDelivers tables cert
  delivers_above delivers = record {
    stops_none = λ earlier turn number keep f k why handed run stands deliverable asks is.
        let last = last_below earlier turn (Stopped k why) handed run is in
        let F : NetworkState → Type 0 = λ u. u.flight number ≡ Some f in
        delivers.stops_none last.before.below (record { event = last.event; outcome = Stopped k why; after = turn.after.network }) number keep f k why last.run
        (subst F (sym last.before.reaches) stands) deliverable (same_event last.event (Move number keep) (sym last.is ∙ asks)) refl;
    stays = λ earlier later number f run stands deliverable kept. stays_above delivers earlier later number f run stands deliverable kept;
    enters = λ earlier later number f run stands deliverable kept. enters_above delivers earlier later number f run stands deliverable kept;
    most = λ earlier later number f run stands deliverable kept. most_above delivers earlier later number f run stands deliverable kept;
  }
