use Rattle.std.{proofs.Common.{List, sym, ◌∙◌, ap}, specs.Prelude.{count_by, is_some}}
use Rattle.plan_values.specs.declared.nodes.Node.{Node}
use Rattle.net_sim.proofs.Counted.{planned_count}
use Rattle.net_sim.proofs.dealing.planned_termini_count.Goals as goal

pub returns : goal.returns
returns c = λ cert.
    c.with_terminus.ensures ∙ ap (λ (nodes : List Node). count_by (λ (node : Node). is_some node.terminus) nodes) c.deref.ensures.value ∙ sym (planned_count c.args.plan.now cert)
