-- Below each run with walkers there is a run of the network, turn by turn.
use Rattle.std.{proofs.Common.{◌≡◌, ◌≢◌, ◌⊎◌, ℕ, ◌+◌, zero, suc, Bool, true, false, not, ◌&&◌, List, [], ◌∷◌, ◌++◌, length, if◌then◌else◌, Option, Some, None, refl, sym, ap, ◌∙◌, subst, inl, inr}, specs.Prelude.{slice_get}, specs.List.{AllByRecursion}, proofs.lemmas.Bool.Decides.{eqb_tells}, proofs.lemmas.Option.{same_Some, none-some}}
use Rattle.mctp_transport.{specs.PacketValues.{PacketValue, KeyValue, Spelled}, specs.PacketValueLaws.{one_packet_value}, specs.Hearing.{Answer}}
use Rattle.net_tables.{specs.Routing.{Holds}, specs.TwoPlans.{Tables}}
use Rattle.net_runs.{specs.States.{NetworkState, Flight, with_packet, unit_of}, specs.Events.{EventValue, Put, OutcomeValue, PutIn, Entered, Lost, Brings}, specs.Runs.{Turn, RunFrom, after_all, IsPutOf, WasPutIn}, specs.Deliveries.{names_itself, is_refusal, moves_of}, specs.Walkers.{WalkedState, WalkedEvent, Happening, BeginWalk, Ask, TellWalk, WalkedOutcome, Happened, Begun, Asked, ToldWalk, WalkRefused, WalkRefusal, Handed}, specs.WalkedRuns.{WalkedHappens, WalkedStep, WalkedTurn, WalkedRunFrom, walked_after}, specs.WalkedMessages.{IsPutOfWalked}, specs.Below.{IsOfWalkersAlone, IsAlikeBelow, AreBelow, HasRunBelow, RunsBelow}, specs.WalkedPromises.{WasPutInWalked, moves_itself, walked_moves_of, HasEnteredWalked}, proofs.Nexts.{new_flight}}
use Rattle.net_runs.specs.Networks as network

-- ---- turns

-- what happens to the network with a turn
pub record HasTurnBelow (tables : Tables) (w : WalkedState) (event : WalkedEvent) (outcome : WalkedOutcome) (new : WalkedState) : Type 0 where
  pub lower : EventValue
  pub told : OutcomeValue
  pub step : network.Step tables w.network lower told new.network
  pub alike : IsAlikeBelow tables w event outcome new lower told

abbrev pub AreOfWalkersAlone : WalkedState → WalkedEvent → WalkedOutcome → WalkedState → Type 0
AreOfWalkersAlone w event outcome new = IsOfWalkersAlone event outcome × (new.network ≡ w.network)

same_network : (w new : WalkedState) → new ≡ w → new.network ≡ w.network
same_network w new is = ap (λ (u : WalkedState). u.network) is

refused_alone : (event : WalkedEvent) (why : WalkRefusal) → IsOfWalkersAlone event (WalkRefused why)
refused_alone (Happening event) why = tt
refused_alone (BeginWalk node eid tag count) why = tt
refused_alone (Ask k) why = tt
refused_alone (TellWalk k) why = tt

happens_below : (tables : Tables) (w : WalkedState) (event : WalkedEvent) (outcome : WalkedOutcome) (new : WalkedState) → WalkedHappens tables w event outcome new
    → AreOfWalkersAlone w event outcome new ⊎ HasTurnBelow tables w event outcome new
happens_below tables w (Happening event) (Happened outcome None) new (step, none, kept, begun) = inr (record { lower = event; told = outcome; step = step; alike = (refl, refl) })
happens_below tables w (Happening event) (Happened outcome (Some handed)) new (step, given, begun) = inr (record { lower = event; told = outcome; step = step; alike = (refl, refl) })
happens_below tables w (BeginWalk node eid tag count) (Begun k) new (number, is) = inl (tt, ap (λ (u : WalkedState). u.network) is)
happens_below tables w (Ask k) (Asked j flight) new (number, walker, next, there, asking, is, begun) =
    inr (record { lower = Put walker.node asking.bytes; told = PutIn flight walker.node; step = asking.put; alike = (walker, next, there, asking, refl, refl) })
happens_below tables w (TellWalk k) (ToldWalk j records standing) new (number, walker, there, many, stands, is) = inl (tt, same_network w new is)
happens_below tables w _ _ new h = absurd h

pub turn_below : (tables : Tables) (w : WalkedState) (event : WalkedEvent) (outcome : WalkedOutcome) (new : WalkedState) → WalkedStep tables w event outcome new
    → AreOfWalkersAlone w event outcome new ⊎ HasTurnBelow tables w event outcome new
turn_below tables w event (WalkRefused why) new h = inl (refused_alone event why, same_network w new h.1)
turn_below tables w event outcome new h = happens_below tables w event outcome new h.1

-- what happened to the network happened
pub happened_below : (tables : Tables) (w : WalkedState) (event : WalkedEvent) (outcome : OutcomeValue) (handed : Option Handed) (new : WalkedState)
    → WalkedStep tables w event (Happened outcome handed) new → (lower : EventValue) × (event ≡ Happening lower) × network.Step tables w.network lower outcome new.network
happened_below tables w (Happening event) outcome None new (may, (step, none, kept, begun)) = (event, refl, step)
happened_below tables w (Happening event) outcome (Some handed) new (may, (step, given, begun)) = (event, refl, step)
happened_below tables w (BeginWalk node eid tag count) outcome handed new (may, h) = absurd h
happened_below tables w (Ask k) outcome handed new (may, h) = absurd h
happened_below tables w (TellWalk k) outcome handed new (may, h) = absurd h

-- ---- runs

left_out : (tables : Tables) (w : WalkedState) (turn : WalkedTurn) (turns : List WalkedTurn) (below : List Turn) → IsOfWalkersAlone turn.event turn.outcome → turn.after.network ≡ w.network
    → AreBelow tables turn.after turns below → AreBelow tables w (turn ∷ turns) below
left_out tables w turn turns [] alone same rest = (alone, same, rest)
left_out tables w turn turns (below ∷ belows) alone same rest = inl (alone, same, rest)

more_below : (tables : Tables) (w : WalkedState) (turn : WalkedTurn) (turns : List WalkedTurn) → WalkedStep tables w turn.event turn.outcome turn.after
    → HasRunBelow tables turn.after turns → HasRunBelow tables w (turn ∷ turns)
more_below tables w turn turns step later = elim (turn_below tables w turn.event turn.outcome turn.after step) [
  | inl (alone, same) ↦
      let R : NetworkState → Type 0 = λ u. RunFrom tables u later.below in
      let A : NetworkState → Type 0 = λ u. after_all u later.below ≡ (walked_after turn.after turns).network in
      record {
        below = later.below;
        run = subst R same later.run;
        alike = left_out tables w turn turns later.below alone same later.alike;
        reaches = subst A same later.reaches;
      }
  | inr one ↦ record {
    below = record { event = one.lower; outcome = one.told; after = turn.after.network } ∷ later.below;
    run = (one.step, later.run);
    alike = inr (record { alike = one.alike; same = refl }, later.alike);
    reaches = later.reaches;
  }
]

-- below a run with walkers is a run of the network
pub runs_below : (tables : Tables) → RunsBelow tables
runs_below tables w [] run = record { below = []; run = tt; alike = tt; reaches = refl }
runs_below tables w (turn ∷ turns) (step, rest) = more_below tables w turn turns step (runs_below tables turn.after turns rest)

pub walked_splits : (tables : Tables) (w : WalkedState) (earlier later : List WalkedTurn) → WalkedRunFrom tables w (earlier ++ later)
    → WalkedRunFrom tables w earlier × WalkedRunFrom tables (walked_after w earlier) later
walked_splits tables w [] later run = (tt, run)
walked_splits tables w (turn ∷ earlier) later (step, rest) = let h = walked_splits tables turn.after earlier later rest in ((step, h.0), h.1)

pub walked_after_splits : (w : WalkedState) (earlier later : List WalkedTurn) → walked_after w (earlier ++ later) ≡ walked_after (walked_after w earlier) later
walked_after_splits w [] later = refl
walked_after_splits w (turn ∷ earlier) later = walked_after_splits turn.after earlier later

pub run_joins : (tables : Tables) (w : NetworkState) (earlier later : List Turn) → RunFrom tables w earlier → RunFrom tables (after_all w earlier) later → RunFrom tables w (earlier ++ later)
run_joins tables w [] later run rest = rest
run_joins tables w (turn ∷ earlier) later (step, run) rest = (step, run_joins tables turn.after earlier later run rest)

pub after_joins : (w : NetworkState) (earlier later : List Turn) → after_all w (earlier ++ later) ≡ after_all (after_all w earlier) later
after_joins w [] later = refl
after_joins w (turn ∷ earlier) later = after_joins turn.after earlier later

-- ---- what alike turns say alike

-- the flight of a put has its packet
put_flies : (tables : Tables) (w : NetworkState) (node flight : ℕ) (bytes : List ℕ) (new : NetworkState) → network.Step tables w (Put node bytes) (PutIn flight node) new
    → (p : PacketValue) → Spelled (unit_of tables.plan) p bytes → (f : Flight) × (new.flight flight ≡ Some f) × (f.packet ≡ p)
put_flies tables w node flight bytes new (may, (q, spelled, number, at, is)) p mine =
    let same : q ≡ p = one_packet_value (unit_of tables.plan) q p spelled.0 mine.0 (sym spelled.1 ∙ mine.1) in
    let there : (with_packet w node q).flight flight ≡ Some (new_flight node q) = elim (eqb_tells flight (w.made + 1)) [
      | inl here ↦ rw here.0 refl
      | inr other ↦ absurd (other.1 number)
    ] in
    (new_flight node q, ap (λ (u : NetworkState). u.flight flight) is ∙ there, same)

module _ (tables : Tables) where
  pub puts_alike : (w : WalkedState) (event : WalkedEvent) (outcome : WalkedOutcome) (new : WalkedState) (lower : EventValue) (told : OutcomeValue) → IsAlikeBelow tables w event outcome new lower told
      → (p : PacketValue) → IsPutOf tables.plan lower told new.network p → IsPutOfWalked tables.plan event outcome new.network p
  puts_alike w (Happening event) (Happened outcome handed) new lower told (is, said) p put =
      let E : EventValue → Type 0 = λ e. IsPutOf tables.plan e told new.network p in
      let O : OutcomeValue → Type 0 = λ o. IsPutOf tables.plan event o new.network p in
      subst O said (subst E is put)
  puts_alike w (Ask k) (Asked j flight) new lower told (walker, next, there, asking, is, said) p put =
      let E : EventValue → Type 0 = λ e. IsPutOf tables.plan e told new.network p in
      let O : OutcomeValue → Type 0 = λ o. IsPutOf tables.plan (Put walker.node asking.bytes) o new.network p in
      put_flies tables w.network walker.node flight asking.bytes new.network asking.put p (subst O said (subst E is put))
  puts_alike w _ _ new lower told h p put = absurd h

  moves_alike : (number : ℕ) (w : WalkedState) (event : WalkedEvent) (outcome : WalkedOutcome) (new : WalkedState) (lower : EventValue) (told : OutcomeValue)
      → IsAlikeBelow tables w event outcome new lower told → (names_itself number lower && not (is_refusal told)) ≡ moves_itself number event outcome
  moves_alike number w (Happening event) (Happened outcome handed) new lower told (is, said) = λ i. names_itself number (is i) && not (is_refusal (said i))
  moves_alike number w (Ask k) (Asked j flight) new lower told (walker, next, there, asking, is, said) = λ i. names_itself number (is i) && not (is_refusal (said i))
  moves_alike number w _ _ new lower told h = absurd h

  lost_alike : (number : ℕ) (w : WalkedState) (event : WalkedEvent) (outcome : WalkedOutcome) (new : WalkedState) (lower : EventValue) (told : OutcomeValue)
      → IsAlikeBelow tables w event outcome new lower told → told ≡ Lost number → (handed : Option Handed) × (outcome ≡ Happened (Lost number) handed)
  lost_alike number w (Happening event) (Happened outcome handed) new lower told (is, said) lost = (handed, ap (λ o. Happened o handed) (sym said ∙ lost))
  lost_alike number w (Ask k) (Asked j flight) new lower told (walker, next, there, asking, is, said) lost = absurd (let e : PutIn flight walker.node ≡ Lost number = sym said ∙ lost in cc)
  lost_alike number w _ _ new lower told h lost = absurd h

  enters_alike : (number node : ℕ) (key : KeyValue) (answer : Answer) (w : WalkedState) (event : WalkedEvent) (outcome : WalkedOutcome) (new : WalkedState) (lower : EventValue) (told : OutcomeValue)
      → IsAlikeBelow tables w event outcome new lower told → Brings told number node key answer → (handed : Option Handed) × (outcome ≡ Happened (Entered number node key answer) handed)
  enters_alike number node key answer w (Happening event) (Happened outcome handed) new lower told (is, said) enters = (handed, ap (λ o. Happened o handed) (sym said ∙ enters))
  enters_alike number node key answer w (Ask k) (Asked j flight) new lower told (walker, next, there, asking, is, said) enters =
      absurd (let e : PutIn flight walker.node ≡ Entered number node key answer = sym said ∙ enters in cc)
  enters_alike number node key answer w _ _ new lower told h enters = absurd h

  alone_moves_none : (number : ℕ) (event : WalkedEvent) (outcome : WalkedOutcome) → IsOfWalkersAlone event outcome → moves_itself number event outcome ≡ false
  alone_moves_none number (Happening event) (Happened outcome handed) alone = absurd alone
  alone_moves_none number _ _ alone = refl

  -- ---- what alike runs say alike

  pub puts_below : (w : WalkedState) (turns : List WalkedTurn) (below : List Turn) → AreBelow tables w turns below → (p : PacketValue) → WasPutIn tables.plan below p → WasPutInWalked tables.plan turns p
  puts_below w [] [] alike p put = absurd put
  puts_below w [] (b ∷ bs) alike p put = absurd alike
  puts_below w (turn ∷ turns) [] alike p put = absurd put
  puts_below w (turn ∷ turns) (b ∷ bs) (inl (alone, same, rest)) p put = inr (puts_below turn.after turns (b ∷ bs) rest p put)
  puts_below w (turn ∷ turns) (b ∷ bs) (inr (one, rest)) p (inl put) =
      let N : NetworkState → Type 0 = λ u. IsPutOf tables.plan b.event b.outcome u p in
      inl (puts_alike w turn.event turn.outcome turn.after b.event b.outcome one.alike p (subst N one.same put))
  puts_below w (turn ∷ turns) (b ∷ bs) (inr (one, rest)) p (inr put) = inr (puts_below turn.after turns bs rest p put)

  one_more : (a b : Bool) (x : Turn) (y : WalkedTurn) (xs : List Turn) (ys : List WalkedTurn) → a ≡ b → length xs ≡ length ys
      → length (if a then x ∷ xs else xs) ≡ length (if b then y ∷ ys else ys)
  one_more true true x y xs ys same many = ap suc many
  one_more false false x y xs ys same many = many
  one_more true false x y xs ys same many = absurd (cc)
  one_more false true x y xs ys same many = absurd (cc)

  pub moves_below : (number : ℕ) (w : WalkedState) (turns : List WalkedTurn) (below : List Turn) → AreBelow tables w turns below → length (moves_of number below) ≡ length (walked_moves_of number turns)
  moves_below number w [] [] alike = refl
  moves_below number w [] (b ∷ bs) alike = absurd alike
  moves_below number w (turn ∷ turns) [] (alone, same, rest) = rw (alone_moves_none number turn.event turn.outcome alone) (moves_below number turn.after turns [] rest)
  moves_below number w (turn ∷ turns) (b ∷ bs) (inl (alone, same, rest)) =
      rw (alone_moves_none number turn.event turn.outcome alone) (moves_below number turn.after turns (b ∷ bs) rest)
  moves_below number w (turn ∷ turns) (b ∷ bs) (inr (one, rest)) =
      one_more (names_itself number b.event && not (is_refusal b.outcome)) (moves_itself number turn.event turn.outcome) b turn (moves_of number bs) (walked_moves_of number turns)
      (moves_alike number w turn.event turn.outcome turn.after b.event b.outcome one.alike) (moves_below number turn.after turns bs rest)

  pub not_lost_below : (number : ℕ) (w : WalkedState) (turns : List WalkedTurn) (below : List Turn) → AreBelow tables w turns below
      → AllByRecursion (λ turn. (handed : Option Handed) → turn.outcome ≢ Happened (Lost number) handed) turns → AllByRecursion (λ (b : Turn). b.outcome ≢ Lost number) below
  not_lost_below number w [] [] alike kept = tt
  not_lost_below number w [] (b ∷ bs) alike kept = absurd alike
  not_lost_below number w (turn ∷ turns) [] alike kept = tt
  not_lost_below number w (turn ∷ turns) (b ∷ bs) (inl (alone, same, rest)) kept = not_lost_below number turn.after turns (b ∷ bs) rest kept.1
  not_lost_below number w (turn ∷ turns) (b ∷ bs) (inr (one, rest)) kept = (
    λ lost. let h = lost_alike number w turn.event turn.outcome turn.after b.event b.outcome one.alike lost in kept.0 h.0 h.1,
    not_lost_below number turn.after turns bs rest kept.1,
  )

  entered_later : (e number : ℕ) (turn : WalkedTurn) (turns : List WalkedTurn) → HasEnteredWalked tables.plan e number turns → HasEnteredWalked tables.plan e number (turn ∷ turns)
  entered_later e number turn turns h = record {
    index = suc h.index;
    turn = h.turn;
    there = h.there;
    node = h.node;
    key = h.key;
    answer = h.answer;
    handed = h.handed;
    enters = h.enters;
    holds = h.holds;
  }

  pub entered_below : (e number node : ℕ) (key : KeyValue) (answer : Answer) → Holds tables.plan node e → (w : WalkedState) (turns : List WalkedTurn) (below : List Turn) → AreBelow tables w turns below
      → (i : ℕ) (x : Turn) → slice_get below i ≡ Some x → Brings x.outcome number node key answer → HasEnteredWalked tables.plan e number turns
  entered_below e number node key answer holds w [] [] alike i x is enters = absurd (none-some x is)
  entered_below e number node key answer holds w [] (b ∷ bs) alike i x is enters = absurd alike
  entered_below e number node key answer holds w (turn ∷ turns) [] alike i x is enters = absurd (none-some x is)
  entered_below e number node key answer holds w (turn ∷ turns) (b ∷ bs) (inl (alone, same, rest)) i x is enters =
      entered_later e number turn turns (entered_below e number node key answer holds turn.after turns (b ∷ bs) rest i x is enters)
  entered_below e number node key answer holds w (turn ∷ turns) (b ∷ bs) (inr (one, rest)) zero x is enters =
      let B : Turn → Type 0 = λ y. Brings y.outcome number node key answer in
      let h = enters_alike number node key answer w turn.event turn.outcome turn.after b.event b.outcome one.alike (subst B (sym (same_Some b x is)) enters) in
      record {
        index = 0;
        turn = turn;
        there = refl;
        node = node;
        key = key;
        answer = answer;
        handed = h.0;
        enters = h.1;
        holds = holds;
      }
  entered_below e number node key answer holds w (turn ∷ turns) (b ∷ bs) (inr (one, rest)) (suc i) x is enters =
      entered_later e number turn turns (entered_below e number node key answer holds turn.after turns bs rest i x is enters)
