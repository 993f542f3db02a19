use Rattle.std.proofs.Common.{rules}
use Rattle.record_fields.proofs.words.bits_in.Goals as goal

pub returns-in-Ok : goal.returns-in-Ok
returns-in-Ok c = (c.in-Ok.number, c.in-Ok.ensures.value.1, search rules)
