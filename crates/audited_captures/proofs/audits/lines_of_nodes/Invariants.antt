use Rattle.std.proofs.Common.{map, ◌≤◌}
use Rattle.audited_captures.{specs.Audits.{AreLines, heard_of}, specs.Exchanges.{exchange_value}, specs.Lines.{line_value}, specs.Repositories.{repository_values}, specs.Words.{word_value}}
use Rattle.audited_captures.proofs.audits.lines_of_nodes.Given as goal

abbrev pub invariant-loop-n : goal.invariant-loop-n
invariant-loop-n l =
    AreLines l.plan (repository_values l.repositories) (heard_of (map word_value l.words) (map exchange_value l.exchanges)) l.n (map line_value l.lines.items) (map line_value l.untold.items) l.count × (l.count ≤ l.n)
