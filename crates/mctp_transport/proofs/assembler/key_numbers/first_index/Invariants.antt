use Rattle.std.proofs.Common.{◌==◌}
use Rattle.mctp_transport.proofs.KeyNumberLaws.{IsFirstSoFar}
use Rattle.mctp_transport.proofs.assembler.key_numbers.first_index.Given as goal

abbrev pub invariant-loop-index : goal.invariant-loop-index
invariant-loop-index l = IsFirstSoFar (λ number. number == l.wanted) l.numbers 64 l.index l.first
