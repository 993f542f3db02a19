use Rattle.std.proofs.Common.{arith}
use Rattle.net_plan.proofs.Gathered.{numeral_next}
use Rattle.net_plan.proofs.next_value.next_number.Goals as goal

pub returns : goal.returns
returns c =
    numeral_next c.args.reader.now c.next_number.new.self c.in_ok-number.number c.in_ok-number.ensures (omega arith)
