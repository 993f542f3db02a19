use Rattle.pdr_record.specs.Values.{sensor_value}
use Rattle.net_questions.{specs.Sensors.{IsSensor, IsUncontained}, proofs.Exists.{of_only, of_nobody}}
use Rattle.net_questions.proofs.lints.entities.has_uncontained_entity.Goals as goal

pub returns-in-Some : goal.returns-in-Some
returns-in-Some c =
    of_only (IsSensor c.args.bytes.now) (sensor_value c.in-Some.sensor) (λ s. IsUncontained c.args.plan.now c.args.node s.entity) c.is_uncontained.result
    c.in-Some.ensures.found c.in-Some.ensures.all c.is_uncontained.ensures

pub returns-in-None : goal.returns-in-None
returns-in-None c = of_nobody (IsSensor c.args.bytes.now) (λ s. IsUncontained c.args.plan.now c.args.node s.entity) c.in-None.ensures.all
