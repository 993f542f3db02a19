use Rattle.std.proofs.Common.{arith, below_more}
use Rattle.net_explained.proofs.causes.records.first_of_handle.Goals as goal

pub returns-then-has_handle : goal.returns-then-has_handle
returns-then-has_handle c = (omega arith, c.has_handle.ensures.0 c.if-has_handle.true, c.loop-earlier.invariant)

pub loop-earlier-preserved : goal.loop-earlier-preserved
loop-earlier-preserved c = below_more _ _ c.loop-earlier.invariant (λ has. cc (c.has_handle.ensures.1 has, c.if-has_handle.false))

pub returns : goal.returns
returns c = λ k less. c.loop-earlier.invariant k (omega arith)
