use Rattle.plain_json.proofs.Plain.{no_colon, no_colon_at_end}
use Rattle.plain_json.proofs.bytes.ends_value.Goals as goal

pub returns-in-None : goal.returns-in-None
returns-in-None c h = no_colon_at_end c.args.bytes.now c.in-None.ensures

pub returns-in-Some : goal.returns-in-Some
returns-in-Some c h = no_colon c.args.bytes.now c.in-Some.byte c.in-Some.field-0-1.now c.in-Some.ensures (c.is_end.ensures h)
