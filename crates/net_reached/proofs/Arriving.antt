-- Whether a packet arrives, by its way.
use Rattle.std.{proofs.Common.{◌≡◌, ◌↔◌, ◌+◌, inl, inr, arith, ℕ, List, length, refl, sym, subst, ◌∙◌, Option, Some, None, Result, Ok, Err, IfOk, IsTrue, is_some}, specs.Prelude.{MatchOption}, proofs.lemmas.Bool.{cases_lt}, proofs.lemmas.Option.{same_Some}}
use Rattle.plan_values.{specs.declared.plan.Plan.{Plan}, specs.declared.certificate.Certificate.{Certificate}}
use Rattle.mctp_routing.specs.declared.decision.ForwardFault.{ForwardFault}
use Rattle.net_rules.specs.Rules.{Accepts}
use Rattle.net_tables.specs.Routing.{Holds}
use Rattle.net_questions.{specs.declared.step.WayStep.{WayStep}, specs.declared.way.End.TheVariants.{Arrives, Stops}, specs.Ways.{IsWay, ArrivesAfter}, proofs.WayLaws.{ways_are_alone}}
use Rattle.net_reached.specs.Wishes.{ComesTo, ReachesNode, ReachesFirst}

-- it arrives where its way ends so
pub arrives : (plan : Plan) (e from last : ℕ) (steps : List WayStep) → IsWay plan e from steps last Arrives
    → ArrivesAfter plan e from (length steps)
arrives plan e from last steps way = (steps, last, refl, way)

-- and nowhere where it stops, since a packet has one way
pub stops : (plan : Plan) (certificate : Certificate) (e from last : ℕ) (steps : List WayStep) (why : ForwardFault)
    → Accepts plan certificate → IsWay plan e from steps last (Stops why) → (moves : ℕ) → ¬ ArrivesAfter plan e from moves
stops plan certificate e from last steps why accepted way moves (others, end_at, count, other) =
    absurd (cc (ways_are_alone plan certificate e from last end_at steps others (Stops why) Arrives accepted way other).2)

-- a node has one endpoint ID
pub comes : (plan : Plan) (a b e moves : ℕ) → Holds plan b e → ArrivesAfter plan e a moves → ComesTo plan a b moves
comes plan a b e moves holds arriving = (e, holds, arriving)

pub comes_not : (plan : Plan) (a b e : ℕ) → Holds plan b e → ((moves : ℕ) → ¬ ArrivesAfter plan e a moves)
    → ¬ ReachesNode plan a b
comes_not plan a b e holds none (moves, (f, held, arriving)) =
    let same : f ≡ e = same_Some f e (sym held ∙ holds) in
    none moves (subst (λ k. ArrivesAfter plan k a moves) same arriving)

pub nobody_comes : (plan : Plan) (a b : ℕ) → ((e : ℕ) → ¬ Holds plan b e) → ¬ ReachesNode plan a b
nobody_comes plan a b none (moves, (e, held, arriving)) = none e held

-- what is known of the one is known of the other
pub told : {E : Type 0} (plan : Plan) (a b e : ℕ) (r : Result (Option ℕ) E) → Holds plan b e
    → IfOk r (λ found. MatchOption found ((moves : ℕ) → ¬ ArrivesAfter plan e a moves) (ArrivesAfter plan e a))
    → IfOk r (λ found. MatchOption found (¬ ReachesNode plan a b) (ComesTo plan a b))
told plan a b e (Err x) holds is = tt
told plan a b e (Ok None) holds is = comes_not plan a b e holds is
told plan a b e (Ok (Some moves)) holds is = comes plan a b e moves holds is

pub reached_if : (plan : Plan) (a b : ℕ) (found : Option ℕ) → MatchOption found (¬ ReachesNode plan a b) (ComesTo plan a b)
    → IsTrue (is_some found) ↔ ReachesNode plan a b
reached_if plan a b None none = (λ yes. absurd (cc yes), λ some. absurd (none some))
reached_if plan a b (Some moves) way = (λ yes. (moves, way), λ some. refl)

-- one node more
pub one_reached : (plan : Plan) (a count : ℕ) → ReachesFirst plan a count → ReachesNode plan a count → ReachesFirst plan a (count + 1)
one_reached plan a count before here b within = elim (cases_lt b count) [
  | inl less ↦ before b less
  | inr more ↦ let same : count ≡ b = omega (arith, more, within) in subst (λ k. ReachesNode plan a k) same here
]
