-- The owned nodes of the level before the index are asked.
use Rattle.std.proofs.Common.{map}
use Rattle.net_sim.{specs.Assignments.{assignment_value}, specs.AssignmentSteps.{HasAskedUpTo}}
use Rattle.net_sim.proofs.assigning.ask_level.Given as goal

abbrev pub invariant-loop-index : goal.invariant-loop-index
invariant-loop-index l = HasAskedUpTo l.plan l.certificate l.level l.index (map assignment_value l.list.items)
