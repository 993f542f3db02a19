use Rattle.std.proofs.Common.{inl, inr, arith}
use Rattle.plan_commands.proofs.Exchanging.{exchanged}
use Rattle.plan_commands.proofs.walk.collecting.exchange_under.Goals as goal

pub returns-in-Ok-clause-goes : goal.returns-in-Ok-clause-goes
returns-in-Ok-clause-goes c = λ count xs way.
    let walker = c.args.walker.now in
    let same = way.same_count in
    let taken = c.in-Ok.ensures in
    exchanged _ c.requires.lawful c.requires.few count (omega (arith, walker.least)) (omega (arith, walker.most)) _ _ _ _ _ _ xs _ _ _ _ _ c.args.id.in_range c.as_slice.ensures.value way
    c.in-Some.ensures.asks c.answer.ensures.answered taken.takes taken.tells taken.goes_on

pub returns-in-Err-clause-goes : goal.returns-in-Err-clause-goes
returns-in-Err-clause-goes c = λ count xs way.
    let walker = c.args.walker.now in
    let same = way.same_count in
    let taken = c.in-Err.ensures in
    let refused = c.refused_at.ensures in
    elim (exchanged _ c.requires.lawful c.requires.few count (omega (arith, walker.least)) (omega (arith, walker.most)) _ _ _ _ _ _ xs _ _ _ _ _ c.args.id.in_range c.as_slice.ensures.value way
    c.in-Some.ensures.asks c.answer.ensures.answered taken.takes taken.tells taken.goes_on) [
      | inl memory ↦ inl (refused.memory memory)
      | inr (much, over) ↦ inr (refused.much much, over)
    ]
