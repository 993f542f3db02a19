use Rattle.std.proofs.Common.{◌≡◌, ℕ, ◌+◌, ◌%◌, ◌<◌, true}
use Rattle.pldm_message.specs.InstanceIdValues.{ids_of}
use Rattle.pldm_message.proofs.instance_ids.InstanceIds.next_free.Given as goal

-- all IDs that were looked at are out
abbrev pub invariant-loop-step : goal.invariant-loop-step
invariant-loop-step l = (k : ℕ) → k < l.step → (ids_of l.self).out ((l.first + k) % 32) ≡ true
