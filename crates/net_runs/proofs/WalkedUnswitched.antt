-- Before any switch, a network with walkers that moves to new tables does what that of the old plan does.
use Rattle.std.{proofs.Common.{◌≡◌, ◌≢◌, ◌↔◌, ℕ, List, [], ◌∷◌, Option, Some, None, refl, ap, ◌∙◌}, specs.List.{AllByRecursion}, proofs.lemmas.List.Elements.{recursion_from_All}}
use Rattle.plan_values.{specs.declared.plan.Plan.{Plan}, specs.declared.certificate.Certificate.{Certificate}}
use Rattle.net_tables.specs.TwoPlans.{moving}
use Rattle.net_runs.{specs.States.{NetworkState}, specs.Events.{Put, Switch, PutIn}, specs.Walkers.{WalkerValue, WalkedState, WalkedEvent, Happening, BeginWalk, Ask, TellWalk, WalkedOutcome, Happened, Begun, Asked, ToldWalk, WalkRefused, walked_at_start}, specs.WalkedRuns.{IsAsking, WalkedHappens, WalkedStep, WalkedTurn, WalkedRunFrom, WalkedRunOf, WalkedRun, NoneSwitchesWalked}, proofs.Unswitched.{IsUnswitched, of, step_also, step_switched}}

abbrev IsNoWalkedSwitch : WalkedEvent → Type 0
IsNoWalkedSwitch event = (node : ℕ) → event ≢ Happening (Switch node)

put_no_switch : (at : ℕ) (bytes : List ℕ) (node : ℕ) → Put at bytes ≢ Switch node
put_no_switch at bytes node e = cc

module _ (plan : Plan) (a b : Option Plan) where
  asking_also : (w : NetworkState) (walker : WalkerValue) (flight : ℕ) (new : NetworkState) (next : WalkerValue) → IsUnswitched w
      → IsAsking (of plan a) w walker flight new next → IsAsking (of plan b) w walker flight new next
  asking_also w walker flight new next none asking = record {
    own = asking.own;
    id = asking.id;
    request = asking.request;
    packet = asking.packet;
    bytes = asking.bytes;
    walk = asking.walk;
    ids = asking.ids;
    holds = asking.holds;
    under = asking.under;
    asks = asking.asks;
    cut = asking.cut;
    spelled = asking.spelled;
    put = step_also plan a b w (Put walker.node asking.bytes) (PutIn flight walker.node) new (put_no_switch walker.node asking.bytes) none asking.put;
    is = asking.is;
  }

  -- the step by other tables, and that no node switches with it
  walked_happens_also : (w : WalkedState) (event : WalkedEvent) (outcome : WalkedOutcome) (new : WalkedState) → IsNoWalkedSwitch event → IsUnswitched w.network
      → WalkedHappens (of plan a) w event outcome new → WalkedHappens (of plan b) w event outcome new × (new.network.switched ≡ w.network.switched)
  walked_happens_also w (Happening event) (Happened outcome None) new not none (step, for_none, kept, begun) =
      let no : (node : ℕ) → event ≢ Switch node = λ node is. not node (ap Happening is) in
      ((step_also plan a b w.network event outcome new.network no none step, for_none, kept, begun), step_switched (of plan a) w.network event outcome new.network no step)
  walked_happens_also w (Happening event) (Happened outcome (Some handed)) new not none (step, given, begun) =
      let no : (node : ℕ) → event ≢ Switch node = λ node is. not node (ap Happening is) in
      ((step_also plan a b w.network event outcome new.network no none step, given, begun), step_switched (of plan a) w.network event outcome new.network no step)
  walked_happens_also w (BeginWalk node eid tag count) (Begun k) new not none (number, is) =
      ((number, is), ap (λ (u : WalkedState). u.network.switched) is)
  walked_happens_also w (Ask k) (Asked j flight) new not none (number, walker, next, there, asking, kept, begun) = (
    (number, walker, next, there, asking_also w.network walker flight new.network next none asking, kept, begun),
    step_switched (of plan a) w.network (Put walker.node asking.bytes) (PutIn flight walker.node) new.network (put_no_switch walker.node asking.bytes) asking.put,
  )
  walked_happens_also w (TellWalk k) (ToldWalk j records standing) new not none (number, walker, there, many, stands, is) =
      ((number, walker, there, many, stands, is), ap (λ (u : WalkedState). u.network.switched) is)
  walked_happens_also w _ _ new not none h = absurd h

  walked_step_also : (w : WalkedState) (event : WalkedEvent) (outcome : WalkedOutcome) (new : WalkedState) → IsNoWalkedSwitch event → IsUnswitched w.network
      → WalkedStep (of plan a) w event outcome new → WalkedStep (of plan b) w event outcome new × (new.network.switched ≡ w.network.switched)
  walked_step_also w event (WalkRefused why) new not none h = (h, ap (λ (u : WalkedState). u.network.switched) h.1)
  walked_step_also w event outcome new not none h = let on = walked_happens_also w event outcome new not none h.1 in ((h.0, on.0), on.1)

  walked_run_also : (w : WalkedState) (turns : List WalkedTurn) → IsUnswitched w.network → AllByRecursion (λ turn. IsNoWalkedSwitch turn.event) turns
      → WalkedRunFrom (of plan a) w turns → WalkedRunFrom (of plan b) w turns
  walked_run_also w [] none not run = tt
  walked_run_also w (turn ∷ turns) none (not, later) (step, rest) =
      let on = walked_step_also w turn.event turn.outcome turn.after not none step in
      (on.0, walked_run_also turn.after turns (λ n. ap (λ switched. switched n) on.1 ∙ none n) later rest)

pub walked_runs_alike : (before after : Plan) (cert : Certificate) (turns : List WalkedTurn) → NoneSwitchesWalked turns
    → WalkedRun before cert turns ↔ WalkedRunOf (moving before after) cert turns
walked_runs_alike before after cert turns none =
    let not = recursion_from_All (λ turn. IsNoWalkedSwitch turn.event) turns none in (
      walked_run_also before None (Some after) (walked_at_start before cert) turns (λ n. refl) not,
      walked_run_also before (Some after) None (walked_at_start before cert) turns (λ n. refl) not,
    )
