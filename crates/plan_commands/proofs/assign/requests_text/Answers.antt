use Rattle.std.proofs.Common.{◌≡◌, ℕ, List, map, string_bytes, Result, Ok, Err, IfOk, ap, ◌∙◌}
use Rattle.plan_values.{specs.declared.plan.Plan.{Plan}, specs.declared.certificate.Certificate.{Certificate}}
use Rattle.net_sim.{specs.Assignments.{AssignmentValue, IsAssignmentOf, assignment_value}, specs.AssignmentRuns.{CanBeCarriedOut, IsAcceptedThroughout, AssignsAll}}
use Rattle.plan_commands.{specs.Assigning.{IsAssignmentText}, proofs.Named.{assignment_named}}
use Rattle.run_texts.specs.AssignmentLines.{assignment_lines}
use Rattle.plan_commands.proofs.assign.requests_text.Goals as goal

-- the lines of an assignment of the plan are its text
lines_of : {A E : Type 0} (text : A → List ℕ) (plan read : Plan) (certificate : Certificate) (list : List AssignmentValue) (result : Result A E)
    → IsAssignmentOf plan certificate list → CanBeCarriedOut plan list → IsAcceptedThroughout plan list → AssignsAll plan list → read ≡ plan
    → IfOk result (λ lines. text lines ≡ assignment_lines read list) → IfOk result (λ lines. IsAssignmentText plan certificate (text lines))
lines_of text plan read certificate list (Err error) listed possible accepted assigned is written = tt
lines_of text plan read certificate list (Ok lines) listed possible accepted assigned is written = record {
  list = list;
  listed = listed;
  possible = possible;
  accepted = accepted;
  assigned = assigned;
  named = assignment_named plan certificate list listed;
  written = written ∙ ap (λ p. assignment_lines p list) is;
}

pub returns : goal.returns
returns c =
    let checked = c.args.checked.now in
    let made = c.in_ok-list in
    let lines = rw c.deref.ensures.value at c.assignment_lines.ensures in
    lines_of (λ lines. string_bytes lines) checked.0 c.plan.result.now checked.1 (map assignment_value made.list.items) c.assignment_lines.result made.ensures.listed
    made.ensures.possible made.ensures.accepted made.ensures.assigned c.plan.ensures.plan lines
