-- That packets keep to their ways, in every run.
use Rattle.std.specs.Prelude.{◌≡◌, ℕ, ◌+◌, ◌≤◌, List, [], ◌∷◌, ◌++◌, length, take, slice_get, Some, Bool, false}
use Rattle.plan_values.{specs.declared.plan.Plan.{Plan}, specs.declared.certificate.Certificate.{Certificate}}
use Rattle.mctp_transport.{specs.PacketValues.{KeyValue}, specs.Hearing.{Answer}}
use Rattle.net_runs.{specs.States.{Flight, destination}, specs.Events.{OutcomeValue, Moved, Entered, Stopped, Move}, specs.Deliveries.{is_refusal}, specs.Runs.{Turn, Run, reached}}
use Rattle.net_questions.{specs.declared.step.WayStep.{WayStep}, specs.declared.way.End.{End}, specs.declared.way.End.TheVariants.{Arrives, Stops}, specs.Ways.{Follows, IsWay}}

-- a flight stands on the way of its packet, after as many steps as it has made hops
abbrev pub StandsOnWay : Plan → Flight → List WayStep → Type 0
StandsOnWay plan f steps = (f.hops ≤ length steps) × Follows plan (destination f) 0 f.origin (take f.hops steps) f.node

-- what comes of a move that ends the way
abbrev pub IsEndOf : Flight → End → OutcomeValue → Type 0
IsEndOf f Arrives outcome =
    (number : ℕ) × (key : KeyValue) × (answer : Answer) × (outcome ≡ Entered number f.node key answer)
IsEndOf f (Stops why) outcome = (number : ℕ) × (outcome ≡ Stopped number why)

-- what comes of moving a flight: it makes the next step of its way, or the way ends
pub record IsNextOnWay (f : Flight) (steps : List WayStep) (end : End) (outcome : OutcomeValue) : Type 0 where
  pub on : (step : WayStep) → slice_get steps f.hops ≡ Some step
      → (number : ℕ) × (outcome ≡ Moved number step.hop.next (f.hops + 1))
  pub over : f.hops ≡ length steps → IsEndOf f end outcome

-- In every run each flight stands on the way of its packet, and each move of it makes the next step of that way.
pub record KeepsToWays (plan : Plan) (cert : Certificate) : Type 0 where
  pub stands : (turns : List Turn) (number : ℕ) (f : Flight) (steps : List WayStep) (last : ℕ) (end : End)
      → Run plan cert turns
      → (reached plan cert turns).flight number ≡ Some f → IsWay plan (destination f) f.origin steps last end
      → StandsOnWay plan f steps
  pub moves : (earlier : List Turn) (turn : Turn) (number : ℕ) (keep : Bool) (f : Flight) (steps : List WayStep)
      (last : ℕ) (end : End)
      → Run plan cert (earlier ++ turn ∷ []) → (reached plan cert earlier).flight number ≡ Some f
      → turn.event ≡ Move number keep
      → is_refusal turn.outcome ≡ false → IsWay plan (destination f) f.origin steps last end
      → IsNextOnWay f steps end turn.outcome
