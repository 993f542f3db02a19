use Rattle.net_questions.specs.Reaching.{AreHopsTo}
use Rattle.net_questions.proofs.hops.hops_to.Given as goal

abbrev pub invariant-loop-from : goal.invariant-loop-from
invariant-loop-from l = AreHopsTo l.plan l.eid.value l.from l.hops.items
