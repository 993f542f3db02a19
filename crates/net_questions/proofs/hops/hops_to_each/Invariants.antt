use Rattle.net_questions.specs.Reaching.{AreHopsToEach}
use Rattle.net_questions.proofs.hops.hops_to_each.Given as goal

abbrev pub invariant-loop-to : goal.invariant-loop-to
invariant-loop-to l = AreHopsToEach l.plan l.to l.table.items
