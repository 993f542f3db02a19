-- What is played goes on with the walks of the run before it.
use Rattle.std.{proofs.Common.{List, [], ◌∷◌, ◌++◌, Result, subst, MatchResult}, specs.Prelude.{IfOk, Ok, Err}}
use Rattle.plan_values.specs.declared.certificate.Certificate.{Certificate}
use Rattle.net_tables.specs.TwoPlans.{Tables}
use Rattle.net_runs.{specs.Walkers.{WalkedState, WalkedEvent, WalkedOutcome, walked_at_start}, specs.WalkedRuns.{WalkedTurn, WalkedRunFrom, WalkedRunOf, walked_after, walked_reached}, proofs.Below.{walked_splits}}
use Rattle.net_check.{proofs.Whole.{accepted_walked_headline, accepted_walked_delivers, accepted_walks}, specs.Accepted.{IsAccepted}}
use Rattle.net_sim.{specs.declared.outcome.Outcome.{Outcome}, specs.Outcomes.{outcome_value}, specs.WalkedStanding.{NetworkValue, WalkedPlays, WalkedWants}, specs.Played.{PlaysAll}, specs.Promised.{IsPromised}, specs.Walks.{HaveWalked, PlaysWalks}, proofs.PlayedRuns.{one_played}}

-- a run goes on from where another ends
pub run_joins : (tables : Tables) (w : WalkedState) (xs ys : List WalkedTurn) → WalkedRunFrom tables w xs → WalkedRunFrom tables (walked_after w xs) ys
    → WalkedRunFrom tables w (xs ++ ys)
run_joins tables w [] ys run rest = rest
run_joins tables w (turn ∷ xs) ys (step, run) rest = (step, run_joins tables turn.after xs ys run rest)

have_walked : (tables : Tables) (cert : Certificate) (turns : List WalkedTurn) → IsAccepted tables cert → WalkedRunOf tables cert turns → HaveWalked tables cert turns
have_walked tables cert turns accepted run earlier later rest begins k node eid tag count n split asks tells off holds has =
    let R : List WalkedTurn → Type 0 = WalkedRunOf tables cert in
    let until = walked_splits tables (walked_at_start tables.plan cert) (earlier ++ begins ∷ later) rest (subst R split run) in
    accepted_walks tables cert accepted earlier later begins k node eid tag count n until.0 asks tells off holds has

pub plays_walks : (tables : Tables) (cert : Certificate) (old : NetworkValue) (events : List WalkedEvent) (outcomes : List WalkedOutcome) (new : NetworkValue)
    → IsAccepted tables cert → PlaysAll tables old events outcomes new → PlaysWalks tables cert old events outcomes new
plays_walks tables cert old events outcomes new accepted all before run stands = (
  all (walked_reached tables.plan cert before) stands,
  λ played. have_walked tables cert (before ++ played.turns) accepted (run_joins tables (walked_at_start tables.plan cert) before played.turns run played.runs),
)

-- what is promised of accepted tables
pub promised : (tables : Tables) (cert : Certificate) → IsAccepted tables cert → IsPromised tables cert
promised tables cert accepted = record { headline = accepted_walked_headline tables cert accepted; delivers = accepted_walked_delivers tables cert accepted }

pub one_walks : {E : Type 0} (tables : Tables) (cert : Certificate) (old : NetworkValue) (event : WalkedEvent) (new : NetworkValue) (result : Result Outcome E)
    → IsAccepted tables cert → MatchResult result (λ outcome. WalkedPlays tables old event (outcome_value outcome) new) (λ _. WalkedWants tables old event new)
    → IfOk result (λ outcome. PlaysWalks tables cert old (event ∷ []) (outcome_value outcome ∷ []) new)
one_walks tables cert old event new (Ok outcome) accepted played =
    plays_walks tables cert old (event ∷ []) (outcome_value outcome ∷ []) new accepted (one_played tables old new event (outcome_value outcome) played)
one_walks tables cert old event new (Err error) accepted played = tt
