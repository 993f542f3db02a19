use Rattle.std.proofs.Common.{◌≡◌, ◌++◌, take}
use Rattle.net_faults.specs.PlanFaults.{broken_in}
use Rattle.net_faults.proofs.listing.add_broken.Given as goal

abbrev pub invariant-loop-run : goal.invariant-loop-run
invariant-loop-run l = l.found.items ≡ l.initial.found.items ++ broken_in l.turn (take l.run-index l.runs)
