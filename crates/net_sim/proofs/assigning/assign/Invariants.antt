-- The owned nodes of lower levels are asked.
use Rattle.std.proofs.Common.{map}
use Rattle.net_sim.{specs.Assignments.{assignment_value}, specs.AssignmentSteps.{HasAskedUpTo}}
use Rattle.net_sim.proofs.assigning.assign.Given as goal

abbrev pub invariant-loop-level : goal.invariant-loop-level
invariant-loop-level l = HasAskedUpTo l.plan l.certificate l.level 0 (map assignment_value l.list.items)
