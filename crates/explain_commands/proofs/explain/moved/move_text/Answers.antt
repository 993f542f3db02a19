use Rattle.std.proofs.Common.{string_bytes}
use Rattle.fault_texts.{specs.RuledOutMoves.{IsMoveRuledOutBy}, proofs.RuledOutMoves.{not_memory_of_move}}
use Rattle.explain_commands.{specs.MoveRows.{file_of}, proofs.ExplainedMoves.{move_written}}
use Rattle.explain_commands.proofs.explain.moved.move_text.Goals as goal

pub returns : goal.returns
returns c =
    let before = file_of c.args.name.now c.args.before.now in
    let after = file_of c.args.new_name.now c.args.after.now in
    let obstacle = c.args.obstacle.now in
    let line = string_bytes c.in_ok-line.line in
    let out : IsMoveRuledOutBy before.plan after.plan obstacle line = record {
      first = c.requires.names;
      none = c.requires.none (not_memory_of_move before.plan obstacle line c.in_ok-line.ensures);
      written = c.in_ok-line.ensures;
    } in
    move_written string_bytes before after obstacle line (string_bytes c.in_ok-told.told) c.format.result out c.in_ok-told.ensures c.format.ensures.ok
