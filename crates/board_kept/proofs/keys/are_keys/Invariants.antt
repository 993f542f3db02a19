use Rattle.toml.specs.View.{members_view, table_view}
use Rattle.board_values.specs.Said.{AreKeys}
use Rattle.board_kept.specs.Keys.{IsKeyOf}
use Rattle.board_kept.proofs.keys.are_keys.Given as goal

abbrev pub invariant-loop-name : goal.invariant-loop-name
invariant-loop-name l = AreKeys (IsKeyOf l.level) (members_view l.name-iterator) → AreKeys (IsKeyOf l.level) (table_view l.table)
