use Rattle.std.proofs.Common.{string_bytes}
use Rattle.board_made.proofs.Answered.{unfound_worded}
use Rattle.board_made.proofs.reasons.unfound.Goals as goal

pub returns : goal.returns
returns c = unfound_worded string_bytes c.args.lacking.now c.format.result c.format.ensures.ok
