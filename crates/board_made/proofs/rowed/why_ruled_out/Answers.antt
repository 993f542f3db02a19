use Rattle.std.proofs.Common.{string_bytes, inl}
use Rattle.board_kept.specs.Rowed.{IsSameButRows}
use Rattle.board_made.proofs.Answered.{ruled_out}
use Rattle.board_made.proofs.rowed.why_ruled_out.Goals as goal

pub returns-in_ok-obstacle_reason : goal.returns-in_ok-obstacle_reason
returns-in_ok-obstacle_reason c =
    let told = c.in_ok-obstacle_reason in
    inl (ruled_out (IsSameButRows c.args.before.now) c.args.plan.now c.args.obstacle.now (string_bytes told.field-0)
    (c.is_same_but_rows.ensures c.if-is_same_but_rows.true) c.requires.names c.requires.none told.ensures)
