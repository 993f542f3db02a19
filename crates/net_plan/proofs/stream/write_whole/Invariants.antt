-- What stands before `at` was given.
use Rattle.std.{proofs.Common.{◌≡◌, ◌-◌, ◌≤◌, length, take}, specs.Io.KnownBytes.{Appends}}
use Rattle.net_plan.proofs.stream.write_whole.Given as goal

abbrev pub invariant-loop-at : goal.invariant-loop-at
invariant-loop-at g l = (l.at ≤ length l.bytes)
    × Appends (g.S.Sink.account l.initial.sink).bytes (g.S.Sink.account l.sink).bytes (take l.at l.bytes)
    × ((g.S.Sink.account l.sink).failures ≡ (g.S.Sink.account l.initial.sink).failures)

abbrev pub decreases-loop-at : goal.decreases-loop-at
decreases-loop-at g l = length l.bytes - l.at
