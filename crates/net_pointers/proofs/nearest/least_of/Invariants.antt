-- The first least of the counts that were passed.
use Rattle.std.proofs.Common.{◌<◌, ◌≤◌, length}
use Rattle.net_pointers.proofs.Least.{IsLeast, IsFirst}
use Rattle.net_pointers.proofs.nearest.least_of.Given as goal

abbrev pub invariant-loop-index : goal.invariant-loop-index
invariant-loop-index l = (l.least < length l.counts) × IsLeast l.counts l.least l.index × IsFirst l.counts l.least × (l.least ≤ l.index)
