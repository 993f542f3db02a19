use Rattle.std.{proofs.Common.{refl, arith}, proofs.lemmas.Bool.{false≢true}}
use Rattle.plan_differences.{specs.Facts.{fact_value}, proofs.Items.{same_more, same_all, others_here}}
use Rattle.plan_differences.proofs.told.are_same.Goals as goal

pub returns-then-not-is_same : goal.returns-then-not-is_same
returns-then-not-is_same c = (
  λ so. absurd (false≢true so),
  λ same.
      absurd
      (others_here fact_value c.args.facts.now c.args.others.now c.loop-index.index c.index-facts-index.result c.index-others-index.result (omega arith) (omega arith)
      c.index-facts-index.is c.index-others-index.is (λ one. false≢true (c.if-not-is_same.ensures.1 one)) same),
)

pub loop-index-preserved : goal.loop-index-preserved
loop-index-preserved c =
    same_more fact_value c.args.facts.now c.args.others.now c.loop-index.index c.index-facts-index.result c.index-others-index.result (omega arith) (omega arith)
    c.index-facts-index.is c.index-others-index.is (c.if-not-is_same.ensures.0 refl) c.loop-index.invariant

pub returns : goal.returns
returns c = (
  λ so. same_all fact_value c.args.facts.now c.args.others.now c.loop-index.index (omega arith) (omega arith) c.loop-index.invariant,
  λ same. refl,
)
