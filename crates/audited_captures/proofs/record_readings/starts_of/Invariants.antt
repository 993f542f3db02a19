use Rattle.std.{proofs.Common.{◌≡◌, take}, specs.List.{flat_map}}
use Rattle.audited_captures.specs.RecordSteps.{start_if}
use Rattle.audited_captures.proofs.record_readings.starts_of.Given as goal

abbrev pub invariant-loop-lead : goal.invariant-loop-lead
invariant-loop-lead l = l.starts.items ≡ flat_map (start_if l.place l.request.data_transfer_handle) (take l.lead-index l.leads)
