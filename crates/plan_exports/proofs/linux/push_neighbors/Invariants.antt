use Rattle.std.{proofs.Common.{◌≡◌, ◌++◌, map, string_bytes, take}, specs.List.{flat_map}}
use Rattle.plan_exports.{specs.LinuxScripts.{neighbor_lines}, specs.PlannedRows.{row_facts}}
use Rattle.plan_exports.proofs.linux.push_neighbors.Given as goal

abbrev pub invariant-loop-row : goal.invariant-loop-row
invariant-loop-row l =
    string_bytes l.text ≡ string_bytes l.fn.text ++ flat_map (neighbor_lines l.plan (map (λ d. d.now) l.devices)) (map row_facts (take l.row-index l.rows))
