use Rattle.std.{proofs.Common.{◌≡◌, ℕ, ◌+◌, ◌<◌, Some}, specs.Prelude.{slice_get}}
use Rattle.net_rules.specs.Circles.{MovesBy}
use Rattle.net_faults.proofs.routing_loops.are_joined.Given as goal

abbrev pub invariant-loop-place : goal.invariant-loop-place
invariant-loop-place l = (i n m : ℕ) → i + 1 < l.place → slice_get l.nodes i ≡ Some n → slice_get l.nodes (i + 1) ≡ Some m → MovesBy l.table n m
