use Rattle.std.proofs.Common.{◌+◌, List, map, sym, ap, ◌∙◌, subst, Vec, Global}
use Rattle.net_sim.{specs.declared.assigning.assignment.Assignment.{Assignment}, specs.Assignments.{AssignmentValue, assignment_value}, specs.AssignmentSteps.{HasAskedUpTo}, proofs.AssignSteps.{asked_here, passed_here}, proofs.assigning.ask_level.Goals.{then-level_of-level+in_ok-ask, else-level_of-level}}
use Rattle.net_sim.proofs.assigning.ask_level.Goals as goal

abbrev values : Vec Assignment Global → List AssignmentValue
values list = map assignment_value list.items

pub loop-index-preserved : goal.loop-index-preserved
loop-index-preserved c =
    let plan = c.args.plan.now in
    let cert = c.args.certificate.now in
    let index = c.loop-index.index in
    let before = values c.loop-index.list in
    elim c.if-level_of-level.branch [
      | then-level_of-level+in_ok-ask w ↦ asked_here plan cert c.args.level index before (values c.if-level_of-level.list) c.requires.owned
          (sym c.level_of.ensures ∙ w.if-level_of-level.true) (ap values w.list-is ∙ w.in_ok-ask.ensures) c.loop-index.invariant
      | else-level_of-level w ↦ subst (λ (list : List AssignmentValue). HasAskedUpTo plan cert c.args.level (index + 1) list) (sym (ap values w.list-is))
          (passed_here plan cert c.args.level index before (λ same. w.if-level_of-level.false (c.level_of.ensures ∙ same)) c.loop-index.invariant)
    ]
