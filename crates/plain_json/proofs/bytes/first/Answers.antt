use Rattle.plain_json.proofs.Plain.{parted, empty}
use Rattle.plain_json.proofs.bytes.first.Goals as goal

pub returns-in-empty : goal.returns-in-empty
returns-in-empty c = empty c.args.bytes.now c.in-empty.len_below

pub returns-in-len1-up : goal.returns-in-len1-up
returns-in-len1-up c = parted c.args.bytes.now c.in-len1-up.len_at_least
