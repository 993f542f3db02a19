use Rattle.std.proofs.Common.{rules, arith}
use Rattle.toml.specs.View.{view}
use Rattle.board_kept.{specs.Kept.{IsRowKeptAt}, proofs.More.{one_more, all_rows_kept}}
use Rattle.board_kept.proofs.nodes.keeps_rows.Goals as goal

pub loop-index-preserved : goal.loop-index-preserved
loop-index-preserved c = one_more (λ i. IsRowKeptAt c.args.plan.now c.args.rows.now (view c.args.said.now) i) c.loop-index.index
    c.loop-index.invariant (c.in_ok-keeps_row_at.ensures (search rules))

pub returns-then-is_list_at : goal.returns-then-is_list_at
returns-then-is_list_at c = λ yes. record {
  list = c.is_list_at.ensures (search rules);
  each = all_rows_kept c.args.plan.now c.args.rows.now (view c.args.said.now) 256
      (λ i within. c.loop-index.invariant i (omega (arith, within, c.loop-index-test.false))) (c.has_item.ensures (search rules));
}
