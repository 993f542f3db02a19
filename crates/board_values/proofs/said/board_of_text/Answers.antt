use Rattle.toml.{specs.View.{table_view}, proofs.Views.{view-Table}}
use Rattle.board_values.proofs.said.board_of_text.Goals as goal

pub returns-in-Ok : goal.returns-in-Ok
returns-in-Ok c = (table_view c.in-Ok.table, c.in-Ok.ensures.ok, view-Table c.in-Ok.table)
