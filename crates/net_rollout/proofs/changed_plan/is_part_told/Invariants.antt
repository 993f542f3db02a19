use Rattle.std.proofs.Common.{◌≡◌, ◌↔◌, ◌<◌, ◌≤◌, ℕ, Some}
use Rattle.net_tables.specs.Routing.{NamesFor, rows_of}
use Rattle.net_rollout.proofs.changed_plan.is_part_told.Given as goal

abbrev pub invariant-loop-eid : goal.invariant-loop-eid
invariant-loop-eid l = (e m : ℕ) → l.part.first.value ≤ e → e < l.eid → NamesFor (rows_of l.new l.part.node) e m ↔ (l.part.next ≡ Some m)
