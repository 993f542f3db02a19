use Rattle.std.proofs.Common.{rules, arith}
use Rattle.toml.specs.View.{view}
use Rattle.board_kept.{specs.Kept.{IsNameAt}, proofs.More.{one_more, all_names_kept}}
use Rattle.board_kept.proofs.nodes.keeps_names.Goals as goal

pub loop-index-preserved : goal.loop-index-preserved
loop-index-preserved c = one_more (λ i. IsNameAt c.args.plan.now (view c.args.said.now) i) c.loop-index.index
    c.loop-index.invariant (c.keeps_name_at.ensures (search rules))

pub returns-then-is_list_at : goal.returns-then-is_list_at
returns-then-is_list_at c = λ yes. record {
  list = c.is_list_at.ensures (search rules);
  each = all_names_kept c.args.plan.now (view c.args.said.now) 64
      (λ i within. c.loop-index.invariant i (omega (arith, within, c.loop-index-test.false))) (c.has_item.ensures (search rules));
}
