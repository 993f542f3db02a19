use Rattle.std.{proofs.Common.{◌≡◌, ◌*◌, ◌≤◌, take}, specs.Prelude.{sum_by}}
use Rattle.explanation_texts.specs.SummaryLines.{record_count}
use Rattle.explanation_texts.proofs.summaries.records_in_all.Given as goal

abbrev pub invariant-loop-node : goal.invariant-loop-node
invariant-loop-node l = (l.count ≡ sum_by record_count (take l.node-index l.nodes)) × (l.count ≤ 4096 * l.node-index)
