use Rattle.std.proofs.lemmas.List.{take-replicate}
use Rattle.bus_captures.proofs.writing.zeros.Goals as goal

pub returns : goal.returns
returns c = take-replicate c.args.count 8 0 c.requires
