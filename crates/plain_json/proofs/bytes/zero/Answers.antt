use Rattle.std.proofs.Common.{true, rules}
use Rattle.plain_json.proofs.Plain.{zero_at}
use Rattle.plain_json.proofs.bytes.zero.Goals as goal

pub returns : goal.returns
returns c =
    zero_at c.args.bytes.now c.in_ok-rest.rest.now c.in_ok-rest.ensures (search rules)
