use Rattle.std.proofs.Common.{Some, rules}
use Rattle.net_plan.{specs.NameIndexes.{noted}, proofs.EventParts.{put_of}}
use Rattle.net_plan.proofs.event_parts.EventParts.put.Goals as goal

pub returns : goal.returns
returns c ms h does = put_of c.args.self ms h (noted c.args.nodes.now) c.in_ok-node.node c.in_ok-bytes.bytes c.in_ok-index.index (search rules) (search rules) (search rules) (search rules) does
