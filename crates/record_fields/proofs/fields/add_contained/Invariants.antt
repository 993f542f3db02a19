use Rattle.std.proofs.Common.{◌≡◌, ◌++◌, map, length}
use Rattle.pdr_record.{specs.Lists.{entities_value}, specs.ListsLeft.{entities_left}}
use Rattle.record_fields.{specs.Meanings.{named_of}, specs.Named.{contained_named}}
use Rattle.record_fields.proofs.fields.add_contained.Given as goal

abbrev pub invariant-loop-contained : goal.invariant-loop-contained
invariant-loop-contained l = map named_of l.fields.items ++ map contained_named (entities_left l.left)
    ≡ map named_of l.initial.fields.items ++ map contained_named (entities_value l.entities)

abbrev pub decreases-loop-contained : goal.decreases-loop-contained
decreases-loop-contained l = length (entities_left l.left)
