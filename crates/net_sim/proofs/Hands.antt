-- A message that comes with a move is handed to the walker that it is for.
use Rattle.std.{proofs.Common.{◌≡◌, ℕ, ◌+◌, ◌<◌, Bool, MatchOption, All, List, length, map, Option, Some, None, inr, refl, sym, ◌∙◌, ap, subst}, specs.Prelude.{slice_get, slice_set, IfSome}, proofs.lemmas.List.{set-get_or}, proofs.lemmas.Option.{slice_get_within, get_or_from_slice_get}}
use Rattle.mctp_transport.{specs.PacketValues.{KeyValue}, specs.Packets.{key_value}, specs.Hearing.{Whole}}
use Rattle.mctp_routing.specs.declared.decision.Decision.TheVariants.{Here}
use Rattle.net_runs.{specs.Events.{Move, OutcomeValue, Entered, Refused, Refusal}, specs.Networks.{Step}, specs.Walkers.{WalkerValue, Happening, Happened, Handed, with_walker, answering_key}, specs.WalkedRuns.{IsHanded}, proofs.FirstAsks.{never_refused}}
use Rattle.net_tables.specs.TwoPlans.{Tables}
use Rattle.net_sim.{specs.declared.traffic.moving.DecidedMove.{DecidedMove}, specs.declared.network_walker.NetworkWalker.{NetworkWalker}, specs.Moves.{HasNumberFor, IsDecidedMove, FindsListener}, specs.NetworkWalkers.{walker_value, Listens, ListensAt, HandsOver}, specs.Routers.{RouterValue}, specs.Standing.{TrafficValue, Plays}, specs.WalkedStanding.{NetworkValue, WalkedPlays, WalkedWants}, proofs.Dealt.{all_at}, proofs.Finding.{walker_place, mapped_there}, proofs.Moving.{enters_there, decided_as, wants_move}, proofs.Walking.{walker_changes, happens, happens_wants}}

-- a write of the element that is there changes nothing
pub set_same : {A : Type 0} (xs : List A) (i : ℕ) (x : A) → slice_get xs i ≡ Some x → slice_set xs i x ≡ xs
set_same xs i x there = ap (λ y. slice_set xs i y) (sym (get_or_from_slice_get xs i x x there)) ∙ set-get_or xs i x

-- who listens there is the listener of a move that enters its node
pub finds_there : (m : DecidedMove) (items : List NetworkWalker) → m.decision ≡ Here → (r : Option ℕ)
    → MatchOption r (All (λ x. ¬ Listens m.node (key_value m.key) (walker_value x)) items) (λ i. ListensAt m.node (key_value m.key) items i) → FindsListener m items r
finds_there m items here None none = λ is. none
finds_there m items here (Some i) listens = (here, listens)

pub finds_within : (m : DecidedMove) (items : List NetworkWalker) (r : Option ℕ) → FindsListener m items r → IfSome r (λ i. i < length items)
finds_within m items None none = tt
finds_within m items (Some i) (here, (x, there, listens)) = slice_get_within items i x there

-- a refused move brings nothing
pub refuses : (tables : Tables) (v : NetworkValue) (number : ℕ) (keep : Bool) (why : Refusal) → Plays tables v.traffic (Move number keep) (Refused why) v.traffic
    → WalkedPlays tables v (Happening (Move number keep)) (Happened (Refused why) None) v
refuses tables v number keep why plays =
    happens tables v v.traffic v.walkers refl (Move number keep) (Refused why) plays (λ w next s step k walker message there (flight, is). absurd (cc))

module _ (router : RouterValue) (v : NetworkValue) (number : ℕ) (keep : Bool) (m : DecidedMove) (d : IsDecidedMove router v.traffic.flights number m) (items : List NetworkWalker)
    (are : v.walkers ≡ map walker_value items) where
  -- memory ran out before it moved
  pub listener_wants : HasNumberFor v.traffic.flights keep → m.decision ≡ Here → (ws : List WalkerValue) → ws ≡ v.walkers → WalkedWants router.tables v (Happening (Move number keep)) (record { traffic = v.traffic; walkers = ws })
  listener_wants few here ws same =
      let (f, there, on) = d in
      happens_wants router.tables v v.traffic ws same (Move number keep)
      (wants_move router.tables v.traffic number keep f there few v.traffic refl refl refl (inr (decided_as router f m on Here here)) refl)

  module _ (u : TrafficValue) (ws : List WalkerValue) (outcome : OutcomeValue) (plays : Plays router.tables v.traffic (Move number keep) outcome u) where
    -- no walker is there for what comes
    pub comes_to_none : ws ≡ v.walkers → (m.decision ≡ Here → All (λ x. ¬ Listens m.node (key_value m.key) (walker_value x)) items)
        → WalkedPlays router.tables v (Happening (Move number keep)) (Happened outcome None) (record { traffic = u; walkers = ws })
    comes_to_none same none =
        happens router.tables v u ws same (Move number keep) outcome plays (λ w next s step k walker message there (flight, is).
        let (i, at, placed) = walker_place v w s k walker there in
        let (x, held, value) = mapped_there walker_value items i walker (subst (λ (xs : List WalkerValue). slice_get xs i ≡ Some walker) are placed) in
        let come = subst (λ (o : OutcomeValue). Step router.tables w.network (Move number keep) o next) is step in
        let (here, node, key) = enters_there router v.traffic number m d w.network next s.network flight walker.node (answering_key walker) (Whole message) keep come in
        all_at (λ y. ¬ Listens m.node (key_value m.key) (walker_value y)) items (none here) i x held
        (ap (λ (y : WalkerValue). y.node) value ∙ sym node, ap answering_key value ∙ sym key))

    -- the walker for which it is takes what comes
    pub hands : (i : ℕ) (x : WalkerValue) → slice_get v.walkers i ≡ Some x → Listens m.node (key_value m.key) x → (handed : Option Handed) (next : WalkerValue) → HandsOver x (i + 1) outcome handed next
        → ws ≡ slice_set v.walkers i next → WalkedPlays router.tables v (Happening (Move number keep)) (Happened outcome handed) (record { traffic = u; walkers = ws })
    hands i x there listens None next (same, nothing) changed w s =
        happens router.tables v u ws (changed ∙ (ap (λ (y : WalkerValue). slice_set v.walkers i y) same ∙ set_same v.walkers i x there)) (Move number keep) outcome plays
        (λ w after s step k walker message at (flight, is). nothing flight walker.node (answering_key walker) message is) w s
    hands i x there listens (Some handed) next (of_number, flight, node, key, message, is, taken) changed w s =
        let (after, step, stands) = plays w.network s.network in
        let come = subst (λ (o : OutcomeValue). Step router.tables w.network (Move number keep) o after) is step in
        let (here, at, under) = enters_there router v.traffic number m d w.network after s.network flight node key (Whole message) keep come in
        let meant : outcome ≡ Entered flight x.node (answering_key x) (Whole message) =
        is ∙ (ap (λ n. Entered flight n key (Whole message)) (sym at ∙ sym listens.0) ∙ ap (λ (k : KeyValue). Entered flight x.node k (Whole message)) (sym under ∙ sym listens.1)) in
        let given : IsHanded w.walker outcome handed (with_walker w.walker (i + 1) next) = record {
          walker = x;
          message = message;
          walk = taken.walk;
          ids = taken.ids;
          there = ap w.walker of_number ∙ (s.walkers i ∙ there);
          meant = (flight, meant);
          takes = taken.takes;
          memory = taken.memory;
          given_back = taken.given_back;
          is = ap (λ n. with_walker w.walker n next) (sym of_number) ∙ ap (λ (y : WalkerValue). with_walker w.walker handed.number y) taken.is;
        } in (
          record { network = after; walker = with_walker w.walker (i + 1) next; begun = w.begun },
          (never_refused router.tables w (Move number keep), (step, given, refl)),
          walker_changes v u w after s stands ws i next (slice_get_within v.walkers i x there) changed,
        )
