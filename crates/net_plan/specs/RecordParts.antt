-- What is gathered of a record, a key after another.
use Rattle.std.specs.Prelude.{codes, List, [], ◌∷◌}
use Rattle.net_plan.{specs.Gathered.{Slot, slot}, specs.JsonWords.{IsHex}, specs.PlanText.{IsWord}, specs.declared.record_parts.RecordParts.{RecordParts}}

abbrev pub record_slots : RecordParts → List Slot
record_slots p =
    slot (codes "handle") IsWord p.handle ∷ slot (codes "next") IsWord p.next
    ∷ slot (codes "bytes") (λ d v. IsHex d v.items) p.bytes ∷ []
