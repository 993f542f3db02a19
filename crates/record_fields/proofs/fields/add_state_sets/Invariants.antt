use Rattle.std.proofs.Common.{◌≡◌, ◌++◌, map, length}
use Rattle.pdr_record.{specs.Lists.{state_sets_value}, specs.ListsLeft.{state_sets_left}}
use Rattle.record_fields.{specs.Meanings.{named_of}, specs.Named.{state_set_named}}
use Rattle.record_fields.proofs.fields.add_state_sets.Given as goal

abbrev pub invariant-loop-set : goal.invariant-loop-set
invariant-loop-set l = map named_of l.fields.items ++ map state_set_named (state_sets_left l.left)
    ≡ map named_of l.initial.fields.items ++ map state_set_named (state_sets_value l.sets)

abbrev pub decreases-loop-set : goal.decreases-loop-set
decreases-loop-set l = length (state_sets_left l.left)
