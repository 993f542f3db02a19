use Rattle.std.proofs.Common.{ℕ, ◌<◌, map}
use Rattle.toml.specs.View.{view}
use Rattle.record_fields.specs.Meanings.{named_of}
use Rattle.board_kept.specs.Fields.{IsSaidAt}
use Rattle.board_kept.proofs.fields.are_said.Given as goal

abbrev pub invariant-loop-index : goal.invariant-loop-index
invariant-loop-index l = (i : ℕ) → i < l.index → IsSaidAt l.plan l.name (map named_of l.own) (view l.value) i
