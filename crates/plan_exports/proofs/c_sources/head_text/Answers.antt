use Rattle.std.proofs.Common.{string_bytes, ap}
use Rattle.plan_exports.{specs.CSources.{head_of_types}, proofs.Pieces.{said_so}}
use Rattle.plan_exports.proofs.c_sources.head_text.Goals as goal

pub returns : goal.returns
returns c = said_so string_bytes _ _ _ (ap (head_of_types c.args.name.now) c.types_text.ensures) c.head_of_types.ensures
