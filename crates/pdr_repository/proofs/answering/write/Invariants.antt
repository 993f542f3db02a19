use Rattle.std.proofs.Common.{◌≡◌, length}
use Rattle.pdr_repository.proofs.answering.write.Given as goal

-- so many zeros stand there
abbrev pub invariant-loop-byte : goal.invariant-loop-byte
invariant-loop-byte g l = length l.out.items ≡ l._byte
