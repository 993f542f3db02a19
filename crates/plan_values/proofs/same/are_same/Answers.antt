use Rattle.std.{proofs.Common.{refl, arith, below_more}, proofs.lemmas.Bool.{false≢true}}
use Rattle.plan_values.proofs.SameItems.{IsSameAt, same_items, same_here, others_here}
use Rattle.plan_values.proofs.same.are_same.Goals as goal

pub returns-then-not-is_same : goal.returns-then-not-is_same
returns-then-not-is_same g c = (
  λ yes. absurd (false≢true yes),
  λ same.
      absurd
      (others_here g.P.PlanPart.meaning c.args.parts.now c.args.others.now c.loop-index.index c.index-parts-index.result c.index-others-index.result (omega arith) (omega arith)
      c.index-parts-index.is c.index-others-index.is (λ one. false≢true (c.if-not-is_same.ensures.1 one)) same),
)

pub loop-index-preserved : goal.loop-index-preserved
loop-index-preserved g c =
    let xs = c.args.parts.now in
    let ys = c.args.others.now in
    below_more (λ k. IsSameAt g.P.PlanPart.meaning xs ys k) c.loop-index.index c.loop-index.invariant
    (same_here g.P.PlanPart.meaning xs ys c.loop-index.index c.index-parts-index.result c.index-others-index.result (omega arith) (omega arith) c.index-parts-index.is c.index-others-index.is
    (c.if-not-is_same.ensures.0 refl))

pub returns : goal.returns
returns g c = (
  λ yes.
      same_items g.P.PlanPart.meaning c.args.parts.now c.args.others.now (omega arith)
      (λ k less. c.loop-index.invariant k (omega (arith, less))),
  λ same. refl,
)
