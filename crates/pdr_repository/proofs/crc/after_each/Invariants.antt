use Rattle.std.proofs.Common.{List, ℕ, ◌++◌, take}
use Rattle.pdr_repository.specs.Crc.{IsCrc}
use Rattle.pdr_repository.proofs.crc.after_each.Given as goal

abbrev pub invariant-loop-byte : goal.invariant-loop-byte
invariant-loop-byte l = (before : List ℕ) → IsCrc before l.start → IsCrc (before ++ take l.byte-index l.bytes) l.crc
