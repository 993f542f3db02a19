use Rattle.std.proofs.Common.{string_bytes}
use Rattle.board_made.proofs.Answered.{unread_worded}
use Rattle.board_made.proofs.reasons.unread_line.Goals as goal

pub returns : goal.returns
returns c = unread_worded string_bytes c.args.reason.now c.format.result c.format.ensures.ok
