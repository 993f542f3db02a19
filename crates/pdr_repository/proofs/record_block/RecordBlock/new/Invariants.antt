use Rattle.std.proofs.Common.{vec_capacity}
use Rattle.pdr_repository.proofs.Blocks.{IsFilledTo}
use Rattle.pdr_repository.proofs.record_block.RecordBlock.new.Given as goal

abbrev pub invariant-loop-record : goal.invariant-loop-record
invariant-loop-record l = IsFilledTo l.records l.record-index l.block.items l.spans.items (vec_capacity l.block) (vec_capacity l.spans)
