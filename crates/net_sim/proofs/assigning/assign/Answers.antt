use Rattle.std.proofs.Common.{◌≡◌, List, map, sym, ap, subst}
use Rattle.plan_values.{specs.declared.plan.Plan.{Plan}, specs.declared.certificate.Certificate.{Certificate}}
use Rattle.net_rules.specs.Rules.{Accepts}
use Rattle.net_sim.{specs.declared.assigning.assignment.Assignment.{Assignment}, specs.Assignments.{assignment_value, IsAssignmentOf}, proofs.AssignSteps.{none_yet, next_level, all_asked}, proofs.AssignRuns.{can_be_carried_out, accepted_throughout, assigns_all}}
use Rattle.net_sim.proofs.assigning.assign.Goals as goal

-- a fact on what was checked, said of the same plan and certificate by other names
same_of : (F : Plan → Certificate → Type 0) (plan p : Plan) (cert k : Certificate) → plan ≡ p → cert ≡ k → F p k → F plan cert
same_of F plan p cert k e f h = subst (λ (q : Plan). F q cert) (sym e) (subst (λ (d : Certificate). F p d) (sym f) h)

pub loop-level-init : goal.loop-level-init
loop-level-init c =
    none_yet _ _ (map assignment_value c.new-list.result.items) (ap (λ (l : List Assignment). map assignment_value l) c.new-list.ensures.items)
    (same_of Accepts _ _ _ _ c.plan-plan.ensures.plan c.certificate-certificate.ensures.certificate c.plan-plan.ensures.accepted)

pub loop-level-preserved : goal.loop-level-preserved
loop-level-preserved c = next_level _ _ c.loop-level.level _ c.in_ok-ask_level.ensures

pub returns : goal.returns
returns c =
    let plan = c.args.checked.now.0 in
    let cert = c.args.checked.now.1 in
    let list = map assignment_value c.loop-level.list.items in
    let asks = same_of (λ p k. IsAssignmentOf p k list) _ _ _ _ (sym c.plan-plan.ensures.plan) (sym c.certificate-certificate.ensures.certificate)
    (all_asked _ _ c.loop-level.level list c.loop-level-test.false c.loop-level.invariant) in
    let accepts = c.plan-plan.ensures.accepted in
    record {
      listed = asks;
      possible = can_be_carried_out plan cert accepts list asks;
      accepted = accepted_throughout plan cert accepts list asks;
      assigned = assigns_all plan cert accepts list asks;
    }
