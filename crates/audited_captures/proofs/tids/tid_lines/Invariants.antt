use Rattle.std.{proofs.Common.{◌≡◌, map, take}, specs.List.{flat_map, list_any}}
use Rattle.audited_captures.{specs.Lines.{line_value}, specs.Tids.{tells_tid, tid_failure, tid_line, tid_values}}
use Rattle.audited_captures.proofs.tids.tid_lines.Given as goal

abbrev pub invariant-loop-tid : goal.invariant-loop-tid
invariant-loop-tid l = (l.told ≡ list_any tells_tid (tid_values (take l.tid-index l.tids)))
    × (map line_value l.lines.items ≡ flat_map (tid_line l.name l.planned) (tid_values (take l.tid-index l.tids)))
    × (l.failures.items ≡ flat_map tid_failure (tid_values (take l.tid-index l.tids)))
