-- What the fields of the code stand for.
use Rattle.record_fields.{specs.declared.held.Held.{Held}, specs.declared.held.NamedField.{NamedField}, specs.Named.{Holding, Number, Sized, Bytes, Set, Thing, Named}}
use Rattle.pdr_record.{specs.StateSetValues.{state_set_value}, specs.Values.{entity_value}}
use Rattle.record_fields.specs.declared.held.Held.TheVariants as held

abbrev pub holding_of : Held → Holding
holding_of (held.Number n) = Number n
holding_of (held.Sized code bits) = Sized code bits
holding_of (held.Bytes bytes) = Bytes bytes.now
holding_of (held.StateSet set) = Set (state_set_value set)
holding_of (held.Entity entity) = Thing (entity_value entity)

abbrev pub named_of : NamedField → Named
named_of field = record { name = field.name.now; held = holding_of field.held }
