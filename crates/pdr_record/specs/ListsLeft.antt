-- What an iterator over a record's list has yet to give.
use Rattle.std.specs.Prelude.{List}
use Rattle.pdr_record.{specs.declared.entities.EntitiesIter.{EntitiesIter}, specs.declared.state_sets.StateSetsIter.{StateSetsIter}, specs.Layouts.{EntityValue, StateSetValue}, specs.Lists.{entities_value, state_sets_value}}

abbrev pub entities_left : EntitiesIter → List EntityValue
entities_left s = entities_value s.left

abbrev pub state_sets_left : StateSetsIter → List StateSetValue
state_sets_left s = state_sets_value s.left
