use Rattle.std.proofs.Common.{Some, rules}
use Rattle.net_plan.proofs.EventParts.{ask_of}
use Rattle.net_plan.proofs.event_parts.EventParts.ask.Goals as goal

pub returns : goal.returns
returns c find ms h does = ask_of c.args.self.now ms h find c.in_ok-walker.walker (search rules) (search rules) does
