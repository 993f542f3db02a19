use Rattle.std.proofs.Common.{string_bytes}
use Rattle.rollout_commands.proofs.Written.{reason_worded}
use Rattle.rollout_commands.proofs.writing.no_files.Goals as goal

pub returns : goal.returns
returns c = reason_worded string_bytes c.args.lacking.now c.format.result c.format.ensures.ok
