use Rattle.std.proofs.Common.{rules, codes, subst}
use Rattle.toml.specs.View.{view}
use Rattle.board_values.specs.Said.{AreItemsKept}
use Rattle.board_kept.specs.Kept.{IsPortKept, AreRowsKept}
use Rattle.board_kept.proofs.nodes.keeps_node.Goals as goal

pub returns : goal.returns
returns c = λ yes. record {
  keys = c.has_only_keys.ensures (search rules);
  head = c.keeps_head.ensures (search rules);
  pool = c.in_ok-keeps_pool.ensures (search rules);
  ports = subst (λ ports. AreItemsKept (IsPortKept (view c.args.board.now) c.args.plan.now) ports (codes "ports") (view c.args.said.now)) c.deref.ensures.value
      (c.in_ok-keeps_ports.ensures (search rules));
  rows = subst (λ rows. AreRowsKept c.args.plan.now rows (view c.args.said.now)) c.deref-2.ensures.value
      (c.in_ok-keeps_rows.ensures (search rules));
  reaches = c.keeps_names.ensures (search rules);
  terminus = c.in_ok-keeps_terminus.ensures yes;
}
