use Rattle.std.{proofs.Common.{◌≡◌, ◌*◌, ◌≤◌, take, length}, specs.Prelude.{sum_by}}
use Rattle.explanation_texts.proofs.summaries.rows_in_all.Given as goal

abbrev pub invariant-loop-node : goal.invariant-loop-node
invariant-loop-node l = (l.count ≡ sum_by (λ node. length node.rows.items) (take l.node-index l.nodes)) × (l.count ≤ 256 * l.node-index)
