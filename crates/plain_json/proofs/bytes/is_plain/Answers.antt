use Rattle.std.proofs.Common.{◌==◌, ap, ◌∙◌, rules}
use Rattle.plain_json.proofs.Plain.{plain_mark}
use Rattle.plain_json.proofs.bytes.is_plain.Goals as goal

pub returns : goal.returns
returns c = ap (λ n. n == 1) c.plain_entry.ensures ∙ plain_mark c.args.byte (search rules)
