use Rattle.std.specs.Prelude.{◌≡◌, ◌-◌}
use Rattle.pdr_record.specs.ListsAt.{after_state_sets}
use Rattle.pdr_record.proofs.state_sets.rest_after.Given as goal

-- what is left decides
abbrev pub invariant-loop : goal.invariant-loop
invariant-loop l = after_state_sets (l.count - l.counter) l.rest ≡ after_state_sets l.count l.bytes
