use Rattle.std.{proofs.Common.{◌++◌, List, map, refl, sym, ap, ◌∙◌}, proofs.lemmas.List.{append-nil}, proofs.lemmas.Option.{slice_get_read}}
use Rattle.net_sim.{specs.Assignments.{AssignmentValue, assignment_value}, proofs.AssignSteps.{asked_by}}
use Rattle.net_sim.proofs.assigning.ask.Goals as goal

pub returns-in-None : goal.returns-in-None
returns-in-None c =
    let node = c.index-node.result.now in
    let plan = c.args.plan.now in
    let list = map assignment_value c.args.list.now.items in
    let stands = slice_get_read plan.nodes.items _ c.args.index node refl c.requires c.index-node.ensures in
    let asked = asked_by plan c.args.index node _ stands c.in-None.ensures in
    sym (append-nil list) ∙ ap (λ (l : List AssignmentValue). list ++ l) (sym asked)
