use Rattle.std.proofs.Common.{◌≡◌, length}
use Rattle.net_rules.specs.RowsByNode.{AreRowsByNode}
use Rattle.net_rules.proofs.plan_index.rows_by_node.Given as goal

abbrev pub invariant-loop-node : goal.invariant-loop-node
invariant-loop-node l = record {
  long : length l.by_node.items ≡ l.node;
  rows : AreRowsByNode l.plan l.by_node.items;
}
