use Rattle.std.{proofs.Common.{◌≡◌, map, take}, specs.List.{flat_map, list_any}}
use Rattle.audited_captures.{specs.Answers.{answer_values}, specs.Lines.{line_value}, specs.Identities.{pool_lines_of, tells_pool}}
use Rattle.audited_captures.proofs.identities.span_lines.Given as goal

abbrev pub invariant-loop-answer : goal.invariant-loop-answer
invariant-loop-answer l = (l.told ≡ list_any tells_pool (answer_values (take l.answer-index l.answers)))
    × (map line_value l.lines.items ≡ flat_map (pool_lines_of l.name l.first l.size) (answer_values (take l.answer-index l.answers)))
