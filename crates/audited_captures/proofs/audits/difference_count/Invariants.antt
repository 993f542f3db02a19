use Rattle.std.proofs.Common.{◌≡◌, ◌≤◌, map, take}
use Rattle.audited_captures.{specs.Lines.{line_value}, specs.Counting.{difference_count}}
use Rattle.audited_captures.proofs.audits.difference_count.Given as goal

abbrev pub invariant-loop-line : goal.invariant-loop-line
invariant-loop-line l = (l.count ≡ difference_count (map line_value (take l.line-index l.lines))) × (l.count ≤ l.line-index)
