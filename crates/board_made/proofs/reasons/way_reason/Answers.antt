use Rattle.std.proofs.Common.{string_bytes}
use Rattle.board_made.proofs.Answered.{way_worded}
use Rattle.board_made.proofs.reasons.way_reason.Goals as goal

pub returns : goal.returns
returns c = way_worded string_bytes c.args.one.now c.args.other.now c.format.result c.format.ensures.ok
