use Rattle.plan_differences.proofs.OtherWays.{between_so}
use Rattle.plan_differences.proofs.ways.other_way.Goals as goal

pub returns : goal.returns
returns c =
    between_so c.args.before.now.0 c.args.after.now.0 c.args.from c.args.to c.in-Some.new_from c.in-Some-same_node.new_to c.in_ok-old_hops.old_hops c.in_ok-new_hops.new_hops c.way_of.result
    c.in-Some.ensures c.in-Some-same_node.ensures c.in_ok-old_hops.ensures c.in_ok-new_hops.ensures c.way_of.ensures
