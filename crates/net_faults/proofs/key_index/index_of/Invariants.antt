use Rattle.net_faults.proofs.IndexLaws.{IsIndexBelow}
use Rattle.net_faults.proofs.key_index.index_of.Given as goal

abbrev pub invariant-loop-at : goal.invariant-loop-at
invariant-loop-at l = IsIndexBelow l.keys l.at l.index
