use Rattle.std.{proofs.Common.{◌≡◌, map, take}, specs.Prelude.{string_bytes}, specs.List.{flat_map}}
use Rattle.audited_captures.{specs.Lines.{line_value}, specs.Audits.{text_line}}
use Rattle.audited_captures.proofs.audits.text_of_lines.Given as goal

abbrev pub invariant-loop-line : goal.invariant-loop-line
invariant-loop-line l = string_bytes l.text ≡ flat_map text_line (map line_value (take l.line-index l.lines))
