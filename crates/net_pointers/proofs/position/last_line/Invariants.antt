-- The last line begins in what is left, or where it was seen to begin.
use Rattle.std.{proofs.Common.{◌≡◌, ◌≤◌, drop, if◌then◌else◌}, specs.List.{list_any}}
use Rattle.net_pointers.specs.Positions.{is_line_feed, last_line}
use Rattle.net_pointers.proofs.position.last_line.Given as goal

abbrev pub invariant-loop-index : goal.invariant-loop-index
invariant-loop-index l = (l.start ≤ l.index) × (last_line l.bytes
    ≡ (if list_any is_line_feed (drop l.index l.bytes) then last_line (drop l.index l.bytes) else drop l.start l.bytes))
