use Rattle.std.proofs.Common.{◌∙◌}
use Rattle.net_plan.proofs.WrittenJson.{named_at}
use Rattle.net_plan.proofs.certificate_json.name_at.Goals as goal

pub returns-in-Some : goal.returns-in-Some
returns-in-Some c = c.as_str.ensures.value ∙ named_at c.args.nodes.now c.args.index c.in-Some.node.now c.in-Some.ensures.lookup.3.0 c.in-Some.ensures.lookup.1
