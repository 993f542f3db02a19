use Rattle.pdr_record.proofs.ListsRead.{one_after}
use Rattle.pdr_record.proofs.state_sets.rest_after.Goals as goal

pub loop-preserved : goal.loop-preserved
loop-preserved c = one_after c.args.count c.loop.counter c.loop.rest.now c.in_ok-rest.rest.now _ c.loop-test.true c.in_ok-rest.ensures.enough c.in_ok-rest.ensures.rest c.loop.invariant
