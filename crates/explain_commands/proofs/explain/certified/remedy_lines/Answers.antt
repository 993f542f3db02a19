use Rattle.std.proofs.Common.{string_bytes}
use Rattle.explain_commands.proofs.Explained.{remedied}
use Rattle.explain_commands.proofs.explain.certified.remedy_lines.Goals as goal

pub returns-in-Ok : goal.returns-in-Ok
returns-in-Ok c = remedied (λ t. string_bytes t) c.args.name.now c.args.given.now.text.items c.args.given.now.plan c.in-Ok._certificate c.to_string.result c.in-Ok.ensures.accepted c.to_string.ensures.ok
