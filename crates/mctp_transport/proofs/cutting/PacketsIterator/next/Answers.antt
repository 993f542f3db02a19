use Rattle.std.{proofs.Common.{length, arith, ap}, proofs.lemmas.Bool.Decides.{nat_tests}}
use Rattle.mctp_transport.{specs.Packets.{packet_value}, proofs.PacketsLeftLaws.{cut-none, cut-next}}
use Rattle.mctp_transport.proofs.cutting.PacketsIterator.next.Goals as goal

pub returns-then-is_empty-clause-steps : goal.returns-then-is_empty-clause-steps
returns-then-is_empty-clause-steps c =
    let e = cut-none c.args.self.now.unit (packet_value c.args.self.now.header c.args.self.now.rest.now) (grind (arith, nat_tests, c.is_empty.ensures, c.if-is_empty.true)) in (e, e)

pub returns-clause-steps : goal.returns-clause-steps
returns-clause-steps c =
    cut-next c.args.self.now.unit (packet_value c.args.self.now.header c.args.self.now.rest.now) c.split_at.result.0.now c.split_at.result.1.now c.next-self.result.value (omega arith)
    (grind (arith, nat_tests, c.is_empty.ensures, c.if-is_empty.false)) (rw (← c.min.ensures) c.split_at.ensures.front) (rw (← c.min.ensures) c.split_at.ensures.back) c.next-self.ensures

pub returns-clause-goes : goal.returns-clause-goes
returns-clause-goes c = let e = returns-clause-steps c in record { on = λ _. (tt, tt, omega (arith, ap length e)); keeps = tt; rests = λ _. tt }
