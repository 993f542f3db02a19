use Rattle.std.proofs.Common.{Some, rules}
use Rattle.net_plan.{specs.NameIndexes.{noted}, proofs.EventParts.{switch_of}}
use Rattle.net_plan.proofs.event_parts.EventParts.switch.Goals as goal

pub returns : goal.returns
returns c ms h does = switch_of c.args.self.now ms h (noted c.args.nodes.now) c.in_ok-node.node c.in_ok-index.index (search rules) (search rules) (search rules) does
