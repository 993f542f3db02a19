use Rattle.std.{proofs.Common.{arith}, proofs.lemmas.Grind.{text_groups}}
use Rattle.plan_differences.proofs.index.note.Goals as goal

pub returns : goal.returns
returns c = grind (arith, text_groups)
