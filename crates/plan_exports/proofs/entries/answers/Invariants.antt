use Rattle.std.proofs.Common.{◌≡◌, ℕ, map}
use Rattle.mctp_control.{specs.Devices.{device_value}, specs.EntryLists.{values_of}}
use Rattle.plan_exports.proofs.Answering.{HasAnswered, IsDue, left_of}
use Rattle.plan_exports.proofs.entries.answers.Given as goal

abbrev pub invariant-loop-due : goal.invariant-loop-due
invariant-loop-due l =
    (device_value l.bridge ≡ device_value l.fn.bridge)
    × IsDue (values_of l.table) l.due
    × HasAnswered (device_value l.fn.bridge) (values_of l.table) l.due (map (λ m. m.items) l.messages.items)

abbrev pub decreases-loop-due : goal.decreases-loop-due
decreases-loop-due l = left_of (values_of l.table) l.due
