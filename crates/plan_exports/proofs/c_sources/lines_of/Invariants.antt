use Rattle.std.{proofs.Common.{◌≡◌, map, string_bytes, take}, specs.List.{flat_map}}
use Rattle.plan_exports.{specs.CSources.{row_line}, specs.PlannedRows.{row_facts}}
use Rattle.plan_exports.proofs.c_sources.lines_of.Given as goal

abbrev pub invariant-loop-row : goal.invariant-loop-row
invariant-loop-row l = string_bytes l.text ≡ flat_map (row_line l.plan) (map row_facts (take l.row-index l.rows))
