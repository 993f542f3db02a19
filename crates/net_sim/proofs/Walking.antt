-- What a network with walkers stands for after its traffic or one of its walkers has changed.
use Rattle.std.{proofs.Common.{◌≡◌, ◌≢◌, ℕ, ◌+◌, ◌<◌, MatchResult, Ok, Err, true, false, cond, eqb, List, [], ◌∷◌, ◌++◌, length, Bool, Option, Some, None, refl, sym, ◌∙◌, ap, subst, inl, inr, arith}, specs.Prelude.{slice_get, slice_set}, specs.declared.result.Result.{Result}, specs.Result.{IsErr}, proofs.lemmas.Bool.Decides.{eqb_tells}, proofs.lemmas.List.{length_push, length-set}}
use Rattle.mctp_transport.{specs.PacketValues.{KeyValue}, specs.Hearing.{Answer}}
use Rattle.net_tables.{specs.TwoPlans.{Tables}, proofs.Elements.{set_there, set_elsewhere, push_last}}
use Rattle.net_runs.{specs.States.{NetworkState}, specs.Events.{EventValue, Put, Move, Lose, Expire, AnswerAt, Switch, OutcomeValue, Entered}, specs.Networks.{Step}, specs.Walkers.{WalkerValue, WalkedState, WalkedEvent, WalkedOutcome, Happening, Happened, WalkRefused, WalkRefusal, IsFirstWalkRefusal, with_walker}, specs.WalkedRuns.{IsForNone}, proofs.FirstAsks.{never_refused}}
use Rattle.net_sim.{specs.Standing.{TrafficValue, HasNetworkState, Plays, Wants}, specs.WalkedStanding.{NetworkValue, StandsForWalked, WalkedPlays, WalkedWants}, proofs.Slots.{push_elsewhere}}

-- the number after two that are the same, or not
next_eqb : (k i : ℕ) → eqb (k + 1) (i + 1) ≡ eqb k i
next_eqb k i = elim (eqb_tells (k + 1) (i + 1)) [
  | inl same ↦ elim (eqb_tells k i) [
    | inl both ↦ same.0 ∙ sym both.0
    | inr other ↦ absurd (other.1 (omega (arith, same.1)))
  ]
  | inr other ↦ elim (eqb_tells k i) [
    | inl same ↦ absurd (other.1 (ap (λ n. n + 1) same.1))
    | inr both ↦ other.0 ∙ sym both.0
  ]
]

-- elements by place, after a write and after a push
module _ {A : Type 0} (xs : List A) (x : A) where
  set_at : (i k : ℕ) → i < length xs → slice_get (slice_set xs i x) k ≡ cond (eqb k i) (Some x) (slice_get xs k)
  set_at i k within = elim (eqb_tells k i) [
    | inl same ↦ rw same.0 (rw same.1 (set_there xs x i within))
    | inr other ↦ rw other.0 (set_elsewhere xs i k x other.1)
  ]

  push_at : (k : ℕ) → slice_get (xs ++ x ∷ []) k ≡ cond (eqb k (length xs)) (Some x) (slice_get xs k)
  push_at k = elim (eqb_tells k (length xs)) [
    | inl same ↦ rw same.0 (rw same.1 (push_last xs x))
    | inr other ↦ rw other.0 (push_elsewhere xs x k other.1)
  ]

module _ (v : NetworkValue) (u : TrafficValue) (w : WalkedState) (next : NetworkState) (s : StandsForWalked v w) (stands : HasNetworkState u next) where
  -- the walkers stay
  pub walkers_stay : (ws : List WalkerValue) → ws ≡ v.walkers → StandsForWalked (record { traffic = u; walkers = ws }) (record w { network = next })
  walkers_stay ws same = record {
    network = stands;
    none = s.none;
    walkers = λ k. s.walkers k ∙ ap (λ (xs : List WalkerValue). slice_get xs k) (sym same);
    begun = s.begun ∙ ap length (sym same);
  }

  -- one has changed
  pub walker_changes : (ws : List WalkerValue) (i : ℕ) (x : WalkerValue) → i < length v.walkers → ws ≡ slice_set v.walkers i x
      → StandsForWalked (record { traffic = u; walkers = ws }) (record { network = next; walker = with_walker w.walker (i + 1) x; begun = w.begun })
  walker_changes ws i x within is = record {
    network = stands;
    none = elim (eqb_tells 0 (i + 1)) [ inl same ↦ absurd (omega (arith, same.1)) | inr other ↦ rw other.0 s.none ];
    walkers = λ k. ap (λ b. cond b (Some x) (w.walker (k + 1))) (next_eqb k i)
        ∙ (ap (λ (o : Option WalkerValue). cond (eqb k i) (Some x) o) (s.walkers k)
        ∙ (sym (set_at v.walkers x i k within) ∙ ap (λ (xs : List WalkerValue). slice_get xs k) (sym is)));
    begun = s.begun ∙ (sym (length-set v.walkers i x) ∙ ap length (sym is));
  }

  -- one has begun
  pub walker_begins : (ws : List WalkerValue) (x : WalkerValue) → ws ≡ v.walkers ++ x ∷ []
      → StandsForWalked (record { traffic = u; walkers = ws }) (record { network = next; walker = with_walker w.walker (w.begun + 1) x; begun = w.begun + 1 })
  walker_begins ws x is = record {
    network = stands;
    none = elim (eqb_tells 0 (w.begun + 1)) [ inl same ↦ absurd (omega (arith, same.1)) | inr other ↦ rw other.0 s.none ];
    walkers = λ k. ap (λ b. cond b (Some x) (w.walker (k + 1))) (next_eqb k w.begun)
        ∙ (ap (λ (n : ℕ). cond (eqb k n) (Some x) (w.walker (k + 1))) s.begun
        ∙ (ap (λ (o : Option WalkerValue). cond (eqb k (length v.walkers)) (Some x) o) (s.walkers k)
        ∙ (sym (push_at v.walkers x k) ∙ ap (λ (xs : List WalkerValue). slice_get xs k) (sym is))));
    begun = ap (λ n. n + 1) s.begun ∙ (sym (length_push v.walkers x) ∙ ap length (sym is));
  }

-- what is told where memory ran out
pub err_told : {A E : Type 0} (P : A → Type 0) (W : Type 0) (r : Result A E) → IsErr r → W → MatchResult r P (λ _. W)
err_told P W (Ok a) is wants = absurd (let e : false ≡ true = is in cc)
err_told P W (Err e) is wants = wants

-- the same of another spelling of the event, or of what comes of it
pub walked_as : (tables : Tables) (v u : NetworkValue) (e e' : WalkedEvent) (o o' : WalkedOutcome) → e ≡ e' → o ≡ o' → WalkedPlays tables v e o u → WalkedPlays tables v e' o' u
walked_as tables v u e e' o o' event outcome plays =
    subst (λ (x : WalkedEvent). WalkedPlays tables v x o' u) event (subst (λ (x : WalkedOutcome). WalkedPlays tables v e x u) outcome plays)

pub wants_as : (tables : Tables) (v u : NetworkValue) (e e' : WalkedEvent) → e ≡ e' → WalkedWants tables v e u → WalkedWants tables v e' u
wants_as tables v u e e' same = subst (λ (x : WalkedEvent). WalkedWants tables v x u) same

-- a refused event of a walk changes nothing
pub walk_refused : (tables : Tables) (v : NetworkValue) (event : WalkedEvent) (why : WalkRefusal)
    → ((w : WalkedState) → StandsForWalked v w → IsFirstWalkRefusal tables.plan w event why) → WalkedPlays tables v event (WalkRefused why) v
walk_refused tables v event why first w s = (w, (first w s, refl), s)

-- only a move brings a packet in
only_moves_bring : (tables : Tables) (w next : NetworkState) (event : EventValue) (flight node : ℕ) (key : KeyValue) (answer : Answer)
    → ((number : ℕ) (keep : Bool) → event ≢ Move number keep) → ¬ Step tables w event (Entered flight node key answer) next
only_moves_bring tables w next (Put at bytes) flight node key answer other step = step.1
only_moves_bring tables w next (Move number keep) flight node key answer other step = other number keep refl
only_moves_bring tables w next (Lose number) flight node key answer other step = step.1
only_moves_bring tables w next (Expire at of_key) flight node key answer other step = step.1
only_moves_bring tables w next (AnswerAt at) flight node key answer other (may, (t, oldest, rest, None, tid, there, waits, answers, done)) = done
only_moves_bring tables w next (AnswerAt at) flight node key answer other (may, (t, oldest, rest, Some bytes, tid, there, waits, answers, done)) = done
only_moves_bring tables w next (Switch at) flight node key answer other step = step.1

module _ (tables : Tables) (v : NetworkValue) (u : TrafficValue) (ws : List WalkerValue) (same : ws ≡ v.walkers) (event : EventValue) where
  -- something happens to the network, and no walker is handed anything
  pub happens : (outcome : OutcomeValue) → Plays tables v.traffic event outcome u
      → ((w : WalkedState) (next : NetworkState) → StandsForWalked v w → Step tables w.network event outcome next → IsForNone w.walker outcome)
      → WalkedPlays tables v (Happening event) (Happened outcome None) (record { traffic = u; walkers = ws })
  happens outcome plays none w s =
      let (next, step, stands) = plays w.network s.network in
      (record w { network = next }, (never_refused tables w event, (step, none w next s step, refl, refl)), walkers_stay v u w next s stands ws same)

  -- nothing that only moves do
  pub happens_apart : ((number : ℕ) (keep : Bool) → event ≢ Move number keep) → (outcome : OutcomeValue) → Plays tables v.traffic event outcome u
      → WalkedPlays tables v (Happening event) (Happened outcome None) (record { traffic = u; walkers = ws })
  happens_apart other outcome plays =
      happens outcome plays (λ w next s step k walker message there (flight, is).
      only_moves_bring tables w.network next event flight walker.node _ _ other (subst (λ (o : OutcomeValue). Step tables w.network event o next) is step))

  -- memory ran out
  pub happens_wants : Wants tables v.traffic event u → WalkedWants tables v (Happening event) (record { traffic = u; walkers = ws })
  happens_wants wants w s = let (stands, may) = wants w.network s.network in (walkers_stay v u w w.network s stands ws same, may)
