-- The endpoint IDs that were passed are found.
use Rattle.std.proofs.Common.{◌≡◌, length}
use Rattle.net_sim.proofs.Counting.{AreHinted}
use Rattle.net_sim.proofs.key_counts.KnownEids.of.Given as goal

abbrev pub invariant-loop-index : goal.invariant-loop-index
invariant-loop-index l = (length l.hints.items ≡ 256) × AreHinted l.eids.items l.hints.items l.index
