-- What is gathered of a terminus, a key after another.
use Rattle.std.specs.Prelude.{codes, List, [], ◌∷◌, map}
use Rattle.net_plan.{specs.Gathered.{Slot, slot}, specs.JsonWords.{IsNumberWithin, IsShortListOf}, specs.PlanText.{IsRecordOf}, specs.declared.terminus_parts.TerminusParts.{TerminusParts}}
use Rattle.plan_values.specs.NodeValues.{record_value}

abbrev pub terminus_slots : TerminusParts → List Slot
terminus_slots p =
    slot (codes "tid") (IsNumberWithin 0 254) p.tid
    ∷ slot (codes "records") (λ d v. IsShortListOf 4096 IsRecordOf d (map record_value v.items)) p.records ∷ []
