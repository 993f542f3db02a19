use Rattle.std.proofs.Common.{◌≡◌, drop, map}
use Rattle.audited_captures.{specs.Counting.{has_compared}, specs.Lines.{line_value}}
use Rattle.audited_captures.proofs.audits.has_compared.Given as goal

abbrev pub invariant-loop-line : goal.invariant-loop-line
invariant-loop-line l = has_compared (map line_value l.lines) ≡ has_compared (map line_value (drop l.line-index l.lines))
