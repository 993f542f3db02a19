use Rattle.std.{proofs.Common.{◌≡◌, ℕ, Some, length}, specs.Prelude.{slice_get}}
use Rattle.net_questions.{specs.RecordIndexes.{IsRecordIndex}, specs.declared.lints.record_index.RecordIndex.{RecordIndex}}
use Rattle.net_questions.proofs.lints.record_index.record_indexes.Given as goal

abbrev pub invariant-loop-node : goal.invariant-loop-node
invariant-loop-node l =
    ((n : ℕ) (x : RecordIndex) → slice_get l.indexes.items n ≡ Some x → IsRecordIndex l.plan n x) × (length l.indexes.items ≡ l.node)
