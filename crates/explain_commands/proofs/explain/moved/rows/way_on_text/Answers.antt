use Rattle.std.proofs.Common.{string_bytes}
use Rattle.explain_commands.{specs.MoveRows.{file_of, side_file}, proofs.MovedTexts.{row_then}}
use Rattle.explain_commands.proofs.explain.moved.rows.way_on_text.Goals as goal

pub returns : goal.returns
returns c =
    let before = file_of c.args.name.now c.args.before.now in
    let after = file_of c.args.new_name.now c.args.after.now in
    let fault = c.args.fault.now in
    row_then string_bytes (side_file before after c.args.side) fault.node fault.entry (string_bytes c.in_ok-row.row) (string_bytes c.in_ok-why.why) c.format.result c.in_ok-row.ensures c.format.ensures.ok
