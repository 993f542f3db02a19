-- What the state sensors and the entity associations of the code stand for.
use Rattle.pdr_record.{specs.declared.entity_association.EntityAssociation.{EntityAssociation}, specs.declared.state_sensor.StateSensor.{StateSensor}, specs.Layouts.{AssociationValue, StateValue}, specs.Lists.{entities_value, state_sets_value}, specs.Values.{entity_value, sensor_value}}

abbrev pub state_value : StateSensor → StateValue
state_value s = record { sensor = sensor_value s.sensor; state_sets = state_sets_value s.state_sets }

abbrev pub association_value : EntityAssociation → AssociationValue
association_value a = record {
  container_id = a.container_id;
  association_type = a.association_type;
  container_entity = entity_value a.container_entity;
  contained_entities = entities_value a.contained_entities;
}
