use Rattle.std.{proofs.Common.{refl, arith}, proofs.lemmas.Bool.{false≢true}}
use Rattle.plan_values.{specs.NodeValues.{row_value}, proofs.SameItems.{others_here}}
use Rattle.net_rollout.proofs.Items.{same_more, same_all}
use Rattle.net_rollout.proofs.changed_plan.are_same.Goals as goal

pub returns-then-not-is_same : goal.returns-then-not-is_same
returns-then-not-is_same c = (
  λ so. absurd (false≢true so),
  λ same.
      absurd
      (others_here row_value c.args.rows.now c.args.others.now c.loop-index.index c.index-rows-index.result c.index-others-index.result (omega arith) (omega arith)
      c.index-rows-index.is c.index-others-index.is (λ one. false≢true (c.if-not-is_same.ensures.1 one)) same),
)

pub loop-index-preserved : goal.loop-index-preserved
loop-index-preserved c =
    same_more row_value c.args.rows.now c.args.others.now c.loop-index.index c.index-rows-index.result c.index-others-index.result (omega arith) (omega arith)
    c.index-rows-index.is c.index-others-index.is (c.if-not-is_same.ensures.0 refl) c.loop-index.invariant

pub returns : goal.returns
returns c = (
  λ so. same_all row_value c.args.rows.now c.args.others.now c.loop-index.index (omega arith) (omega arith) c.loop-index.invariant,
  λ same. refl,
)
