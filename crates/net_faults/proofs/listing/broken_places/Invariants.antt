use Rattle.std.proofs.Common.{◌≡◌, map, take}
use Rattle.net_faults.specs.declared.plan_fault.PlanFault.TheVariants.{Broken}
use Rattle.net_faults.proofs.listing.broken_places.Given as goal

abbrev pub invariant-loop-run : goal.invariant-loop-run
invariant-loop-run l = l.found.items ≡ map Broken (take l.run-index l.runs)
