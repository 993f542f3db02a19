use Rattle.std.proofs.Common.{ℕ, ◌<◌}
use Rattle.toml.specs.View.{view}
use Rattle.board_kept.specs.Kept.{IsRecordKeptAt}
use Rattle.board_kept.proofs.records.keeps_records.Given as goal

abbrev pub invariant-loop-index : goal.invariant-loop-index
invariant-loop-index l = (j : ℕ) → j < l.index → IsRecordKeptAt l.files l.plan l.records (view l.said) j
