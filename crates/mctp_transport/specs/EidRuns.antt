-- Endpoint IDs in a row.
use Rattle.std.specs.Prelude.{ℕ, ◌+◌, ◌<◌, ◌≤◌}
use Rattle.mctp_transport.specs.declared.eid_run.EidRun.{EidRun}

-- e is one of the run's
abbrev pub IsInRun : EidRun → ℕ → Type 0
IsInRun run e = (run.first.value ≤ e) × (e < run.first.value + run.size)
