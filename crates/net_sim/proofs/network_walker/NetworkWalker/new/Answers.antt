use Rattle.std.proofs.Common.{None}
use Rattle.net_sim.proofs.network_walker.NetworkWalker.new.Goals as goal

pub returns : goal.returns
returns c = λ i. record {
  node = c.args.node;
  eid = c.args.eid.value;
  tag = c.args.tag.value;
  walk = c.in_ok-walker.ensures.state i;
  ids = record { out = λ id. c.new-ids.ensures.out id i; last = c.new-ids.ensures.last i };
  ended = None;
}
