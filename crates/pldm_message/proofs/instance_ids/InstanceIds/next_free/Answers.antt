use Rattle.std.proofs.Common.{arith}
use Rattle.pldm_message.{specs.InstanceIdValues.{ids_of}, proofs.Turns.{all_out, next_after}}
use Rattle.pldm_message.proofs.instance_ids.InstanceIds.next_free.Goals as goal

pub returns-then-not-self-from : goal.returns-then-not-self-from
returns-then-not-self-from c =
    rw c.new.ensures
    (next_after (ids_of c.args.self.now) c.first_place-first.result c.loop-step.step c.first_place-first.ensures.place c.first_place-first.ensures.range c.loop-step-test.true
    c.loop-step.invariant (rw c.from.ensures at c.if-not-self-from.true))

pub returns : goal.returns
returns c =
    all_out (ids_of c.args.self.now) c.first_place-first.result c.first_place-first.ensures.range
    (λ k lt. c.loop-step.invariant k (omega (arith, lt, c.loop-step-test.false)))
