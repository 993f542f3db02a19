-- Runs from the start of a plan of which one node has a terminus.
use Rattle.std.specs.Prelude.{◌≡◌, ◌≢◌, ℕ, List, map, None}
use Rattle.plan_values.{specs.declared.plan.Plan.{Plan}, specs.declared.certificate.Certificate.{Certificate}}
use Rattle.net_runs.{specs.Walkers.{WalkedEvent, WalkedOutcome}, specs.WalkedRuns.{WalkedTurn, WalkedRun}}
use Rattle.net_tables.specs.Repositories.{terminus_of}

-- The events with these outcomes are the turns of a run of the plan from its start.
pub record IsRunFromStart (plan : Plan) (cert : Certificate) (events : List WalkedEvent)
    (outcomes : List WalkedOutcome) : Type 0 where
  pub turns : List WalkedTurn
  pub events_are : map (λ (t : WalkedTurn). t.event) turns ≡ events
  pub outcomes_are : map (λ (t : WalkedTurn). t.outcome) turns ≡ outcomes
  pub runs : WalkedRun plan cert turns

-- no other node than n has a terminus
abbrev pub IsAlone : Plan → ℕ → Type 0
IsAlone plan n = (m : ℕ) → m ≢ n → terminus_of plan m ≡ None
