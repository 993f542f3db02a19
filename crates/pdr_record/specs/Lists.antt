-- The lists that records hold, as their bytes spell them.
use Rattle.std.specs.Prelude.{List}
use Rattle.pdr_record.{specs.declared.entities.Entities.{Entities}, specs.declared.state_sets.StateSets.{StateSets}, specs.ListsAt.{entities_of, state_sets_of}, specs.Layouts.{EntityValue, StateSetValue}}

abbrev pub entities_value : Entities → List EntityValue
entities_value es = entities_of es.count es.bytes.now

abbrev pub state_sets_value : StateSets → List StateSetValue
state_sets_value ss = state_sets_of ss.count ss.bytes.now
