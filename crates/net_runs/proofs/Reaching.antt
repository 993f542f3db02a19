-- Runs with walkers, one after another.
use Rattle.std.{proofs.Common.{◌≡◌, ◌≢◌, ℕ, List, [], ◌∷◌, ◌++◌, None, refl, sym, ◌∙◌, subst}, specs.List.{AllByRecursion}}
use Rattle.net_runs.{specs.States.{NetworkState}, specs.Events.{EventValue, Put, OutcomeValue}, specs.Networks.{Step}, specs.Walkers.{WalkedState, WalkedEvent, WalkedOutcome, Happening, Happened}, specs.WalkedRuns.{WalkedStep, WalkedTurn, WalkedRunFrom, walked_after, IsForNone}, proofs.FirstAsks.{never_refused}}
use Rattle.net_tables.specs.TwoPlans.{Tables}

-- the event puts nothing in by itself
abbrev pub PutsNothing : WalkedEvent → Type 0
PutsNothing event = (node : ℕ) (bytes : List ℕ) → event ≢ Happening (Put node bytes)

module _ (tables : Tables) where
  -- a run leads from the one to the other, in which only requests and answers are put in
  pub record Reaches (w new : WalkedState) : Type 0 where
    pub turns : List WalkedTurn
    pub run : WalkedRunFrom tables w turns
    pub ends : walked_after w turns ≡ new
    pub puts : AllByRecursion (λ turn. PutsNothing turn.event) turns

  pub stays_there : (w : WalkedState) → Reaches w w
  stays_there w = record { turns = []; run = tt; ends = refl; puts = tt }

  joined_run : (w v : WalkedState) (xs ys : List WalkedTurn) → WalkedRunFrom tables w xs → walked_after w xs ≡ v → WalkedRunFrom tables v ys
      → WalkedRunFrom tables w (xs ++ ys) × (walked_after w (xs ++ ys) ≡ walked_after v ys)
  joined_run w v [] ys run same more =
      let R : WalkedState → Type 0 = λ u. WalkedRunFrom tables u ys × (walked_after u ys ≡ walked_after v ys) in
      subst R (sym same) (more, refl)
  joined_run w v (turn ∷ xs) ys (step, run) same more = let rest = joined_run turn.after v xs ys run same more in ((step, rest.0), rest.1)

  pub reaches_on : (u v w : WalkedState) → Reaches u v → Reaches v w → Reaches u w
  reaches_on u v w one two =
      let both = joined_run u v one.turns two.turns one.run one.ends two.run in
      record { turns = one.turns ++ two.turns; run = both.0; ends = both.1 ∙ two.ends; puts = both_put one.turns two.turns one.puts two.puts }
    where
      both_put : (xs ys : List WalkedTurn) → AllByRecursion (λ turn. PutsNothing turn.event) xs → AllByRecursion (λ turn. PutsNothing turn.event) ys
          → AllByRecursion (λ turn. PutsNothing turn.event) (xs ++ ys)
      both_put [] ys a b = b
      both_put (x ∷ xs) ys a b = (a.0, both_put xs ys a.1 b)

  pub one_turn : (w : WalkedState) (event : WalkedEvent) (outcome : WalkedOutcome) (new : WalkedState) → PutsNothing event → WalkedStep tables w event outcome new → Reaches w new
  one_turn w event outcome new puts step =
      record { turns = record { event = event; outcome = outcome; after = new } ∷ []; run = (step, tt); ends = refl; puts = (puts, tt) }

  -- the network goes on, and no walker is handed anything
  pub network_turn : (w : WalkedState) (event : EventValue) (outcome : OutcomeValue) (new : NetworkState) → ((node : ℕ) (bytes : List ℕ) → event ≢ Put node bytes) → Step tables w.network event outcome new → IsForNone w.walker outcome
      → Reaches w (record { network = new; walker = w.walker; begun = w.begun })
  network_turn w event outcome new puts step none =
      one_turn w (Happening event) (Happened outcome None) (record { network = new; walker = w.walker; begun = w.begun }) (λ node bytes e. puts node bytes (same_event event (Put node bytes) e))
      (never_refused tables w event, (step, none, refl, refl))
    where
      same_event : (a b : EventValue) → Happening a ≡ Happening b → a ≡ b
      same_event a b e = cc
