use Rattle.net_plan.proofs.Gathered.{hex_next}
use Rattle.net_plan.proofs.next_value.next_hex.Goals as goal

pub returns : goal.returns
returns c =
    hex_next c.args.reader.now c.next_string.new.self c.in_ok-text.text.now c.in-Ok.bytes.items c.in_ok-text.ensures c.in-Ok.ensures.ok
