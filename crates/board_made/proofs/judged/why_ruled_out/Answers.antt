use Rattle.std.proofs.Common.{string_bytes, inl}
use Rattle.toml.specs.View.{view}
use Rattle.board_kept.specs.Kept.{Keeps}
use Rattle.board_made.proofs.Answered.{ruled_out}
use Rattle.board_made.proofs.judged.why_ruled_out.Goals as goal

pub returns-in_ok-obstacle_reason : goal.returns-in_ok-obstacle_reason
returns-in_ok-obstacle_reason c =
    let told = c.in_ok-obstacle_reason in
    inl (ruled_out (Keeps c.args.files.now (view c.args.board.now)) c.args.plan.now c.args.obstacle.now (string_bytes told.field-0)
    (c.in_ok-keeps.ensures c.if-branch.true) c.requires.names c.requires.none told.ensures)
