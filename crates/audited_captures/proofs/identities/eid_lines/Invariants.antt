use Rattle.std.{proofs.Common.{◌≡◌, map, take}, specs.List.{flat_map, list_any}}
use Rattle.audited_captures.{specs.Answers.{answer_values}, specs.Lines.{line_value}, specs.Identities.{identity_lines, tells_eid, kind_number}}
use Rattle.audited_captures.proofs.identities.eid_lines.Given as goal

abbrev pub invariant-loop-answer : goal.invariant-loop-answer
invariant-loop-answer l = (l.told ≡ list_any tells_eid (answer_values (take l.answer-index l.answers)))
    × (map line_value l.lines.items ≡ flat_map (identity_lines l.name l.eid.value (kind_number l.kind)) (answer_values (take l.answer-index l.answers)))
