use Rattle.std.{proofs.Common.{◌+◌, sym, ◌∙◌, ap, subst, arith}, proofs.lemmas.List.{length_push}}
use Rattle.net_questions.{specs.RecordIndexes.{IsRecordIndex}, proofs.FirstNoted.{indexes_more}}
use Rattle.net_questions.proofs.lints.record_index.record_indexes.Goals as goal

pub loop-node-preserved : goal.loop-node-preserved
loop-node-preserved c =
    let items = c.loop-node.indexes.items in
    let index = c.in_ok-record_index.field-0 in
    rw c.in_ok-push.ensures.items (
      indexes_more c.args.plan.now items index c.loop-node.invariant.0 (subst (λ k. IsRecordIndex c.args.plan.now k index) (sym c.loop-node.invariant.1) c.in_ok-record_index.ensures),
      length_push items index ∙ ap (λ k. k + 1) c.loop-node.invariant.1,
    )

pub returns : goal.returns
returns c = record { each = c.loop-node.invariant.0; all = omega (arith, c.loop-node.invariant.1, c.loop-node-test.false, c.loop-node.auto, c.len-node-end.ensures) }
