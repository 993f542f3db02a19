use Rattle.std.proofs.Common.{Some, rules}
use Rattle.net_plan.proofs.EventParts.{move_of}
use Rattle.net_plan.proofs.event_parts.EventParts.move_on.Goals as goal

pub returns : goal.returns
returns c find ms h does = move_of c.args.self.now ms h find c.in_ok-flight.flight c.in_ok-keep.keep (search rules) (search rules) (search rules) does
