use Rattle.std.proofs.Common.{Some, rules}
use Rattle.net_plan.proofs.EventParts.{lose_of}
use Rattle.net_plan.proofs.event_parts.EventParts.lose.Goals as goal

pub returns : goal.returns
returns c find ms h does = lose_of c.args.self.now ms h find c.in_ok-flight.flight (search rules) (search rules) does
