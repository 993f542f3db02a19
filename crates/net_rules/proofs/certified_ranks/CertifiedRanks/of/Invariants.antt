use Rattle.std.proofs.Common.{◌≡◌, length}
use Rattle.net_rules.specs.RanksByEid.{AreRangesByNode}
use Rattle.net_rules.proofs.certified_ranks.CertifiedRanks.of.Given as goal

abbrev pub invariant-loop-node : goal.invariant-loop-node
invariant-loop-node l = record {
  long : length l.by_node.items ≡ l.node;
  ranges : AreRangesByNode l.certificate l.by_node.items;
}
