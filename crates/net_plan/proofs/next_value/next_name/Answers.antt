use Rattle.std.proofs.Common.{true, rules}
use Rattle.net_plan.proofs.Gathered.{name_next}
use Rattle.net_plan.proofs.next_value.next_name.Goals as goal

pub returns : goal.returns
returns c =
    name_next c.args.reader.now c.next_string.new.self c.in_ok-text.text.now c.in_ok-text.ensures (search rules)
