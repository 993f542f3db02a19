-- What was gone over stands for itself.
use Rattle.std.{proofs.Common.{◌≡◌, ◌-◌, ◌≤◌, length, take, true}, specs.List.{list_all}}
use Rattle.plain_json.specs.Plain.{is_plain}
use Rattle.plain_json.proofs.bytes.plain_len.Given as goal

abbrev pub invariant-plain : goal.invariant-plain
invariant-plain l = (list_all is_plain (take l.len l.bytes) ≡ true) × (l.len ≤ length l.bytes)

abbrev pub decreases-plain : goal.decreases-plain
decreases-plain l = length l.bytes - l.len
