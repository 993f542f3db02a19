-- What was counted and what is left make all.
use Rattle.std.proofs.Common.{◌≡◌, ◌+◌, length}
use Rattle.net_pointers.proofs.tokens.count.Given as goal

abbrev pub invariant-loop-count : goal.invariant-loop-count
invariant-loop-count l = l.count + length l.reader ≡ length l.fn.reader

abbrev pub decreases-loop-count : goal.decreases-loop-count
decreases-loop-count l = length l.reader
