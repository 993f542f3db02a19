-- The way of a packet: where each node sends it, and what the last one does with it.
use Rattle.std.specs.Prelude.{◌≡◌, ◌⊎◌, ℕ, suc, List, [], ◌∷◌, length, map}
use Rattle.mctp_routing.{specs.declared.decision.Decision.{Decision}, specs.declared.decision.Decision.TheVariants.{Here, Drop, Forward}, specs.Decisions.{Decides}, specs.Rows.{Routes}}
use Rattle.plan_values.specs.declared.plan.Plan.{Plan}
use Rattle.net_tables.{specs.Routing.{Holds, IsBridge, rows_of}, specs.Tables.{table_row}}
use Rattle.net_questions.{specs.declared.step.WayStep.{WayStep}, specs.declared.way.End.{End}, specs.declared.way.End.TheVariants.{Arrives, Stops}}

-- what n does with a packet for e that has come to it with so many moves
abbrev pub DoesAfter : Plan → ℕ → ℕ → ℕ → Decision → Type 0
DoesAfter plan e moves n decision =
    Decides (Holds plan n e) (IsBridge plan n ⊎ (moves ≡ 0)) (Routes (map table_row (rows_of plan n)) e) e decision

-- a packet for e that has come to n with so many moves is sent along these steps, one after another, to m
abbrev pub Follows : Plan → ℕ → ℕ → ℕ → List WayStep → ℕ → Type 0
Follows plan e moves n [] m = n ≡ m
Follows plan e moves n (step ∷ steps) m =
    (step.node ≡ n) × DoesAfter plan e moves n (Forward step.hop) × Follows plan e (suc moves) step.hop.next steps m

-- the last node takes the packet, or drops it
abbrev pub decision_of : End → Decision
decision_of Arrives = Here
decision_of (Stops why) = Drop why

-- A packet for e that is put in at a node is sent along these steps, and the last node takes it or drops it.
pub record IsWay (plan : Plan) (e from : ℕ) (steps : List WayStep) (last : ℕ) (end : End) : Type 0 where
  pub follows : Follows plan e 0 from steps last
  pub ends : DoesAfter plan e (length steps) last (decision_of end)

-- both ways have the same steps, and end at one node, alike
abbrev pub SameWays : List WayStep → List WayStep → ℕ → ℕ → End → End → Type 0
SameWays steps others last end_at one other = (steps ≡ others) × (last ≡ end_at) × (one ≡ other)

-- a packet for e that is put in at a node makes so many steps, and then its last node takes it
abbrev pub ArrivesAfter : Plan → ℕ → ℕ → ℕ → Type 0
ArrivesAfter plan e from moves =
    (steps : List WayStep) × (last : ℕ) × (length steps ≡ moves) × IsWay plan e from steps last Arrives
