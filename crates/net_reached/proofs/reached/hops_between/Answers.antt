use Rattle.std.proofs.Common.{rules}
use Rattle.net_reached.proofs.Arriving.{told}
use Rattle.net_reached.proofs.reached.hops_between.Goals as goal

pub returns-in-Some : goal.returns-in-Some
returns-in-Some c = told c.args.checked.now.0 c.args.from c.args.to c.in-Some.eid.value c.hops_to.result (search rules) c.hops_to.ensures
