use Rattle.std.proofs.Common.{Some, rules}
use Rattle.net_plan.{specs.NameIndexes.{noted}, proofs.EventParts.{answer_of}}
use Rattle.net_plan.proofs.event_parts.EventParts.answer.Goals as goal

pub returns : goal.returns
returns c ms h does = answer_of c.args.self.now ms h (noted c.args.nodes.now) c.in_ok-node.node c.in_ok-index.index (search rules) (search rules) (search rules) does
