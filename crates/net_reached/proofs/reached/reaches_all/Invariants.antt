use Rattle.net_reached.specs.Wishes.{ReachesFirst}
use Rattle.net_reached.proofs.reached.reaches_all.Given as goal

abbrev pub invariant-loop-to : goal.invariant-loop-to
invariant-loop-to l = ReachesFirst l.checked.0 l.from l.to
