use Rattle.std.proofs.Common.{arith, sym, subst}
use Rattle.net_reached.{specs.Reading.{IsRemark}, proofs.Saying.{says_nothing}}
use Rattle.net_reached.proofs.reading.wish_of_line.Goals as goal

pub returns-clause-none : goal.returns-clause-none
returns-clause-none c =
    says_nothing c.args.plan.now c.args.line.now c.loop-from.from
    (λ remark. cc (c.is_remark.ensures.1 (subst IsRemark (sym c.as_bytes.ensures.value) remark), c.if-is_remark.false)) (omega arith) c.loop-from.invariant
