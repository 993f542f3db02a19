-- What `assign` prints of an accepted plan.
use Rattle.std.specs.Prelude.{◌≡◌, ℕ, ◌<◌, List, length, All}
use Rattle.plan_values.{specs.declared.plan.Plan.{Plan}, specs.declared.certificate.Certificate.{Certificate}}
use Rattle.net_sim.{specs.Assignments.{AssignmentValue, IsAssignmentOf}, specs.AssignmentRuns.{CanBeCarriedOut, IsAcceptedThroughout, AssignsAll}}
use Rattle.run_texts.specs.AssignmentLines.{assignment_lines}

-- the plan has the request's bus and its node, so that no dash stands for a name
abbrev pub IsNamed : Plan → AssignmentValue → Type 0
IsNamed plan asked = (asked.bus < length plan.buses.items) × (asked.node < length plan.nodes.items)

-- The text is the lines of the requests that give each owned node its endpoint ID and pool. They can be carried out;
-- however they are replied to, each is accepted, and all is assigned then.
pub record IsAssignmentText (plan : Plan) (certificate : Certificate) (text : List ℕ) : Type 0 where
  pub list : List AssignmentValue
  pub listed : IsAssignmentOf plan certificate list
  pub possible : CanBeCarriedOut plan list
  pub accepted : IsAcceptedThroughout plan list
  pub assigned : AssignsAll plan list
  pub named : All (IsNamed plan) list
  pub written : text ≡ assignment_lines plan list
