use Rattle.pdr_record.specs.Bodies.{body_value}
use Rattle.net_questions.proofs.Referring.{sensor_found, sensor_alone}
use Rattle.net_questions.proofs.lints.bodies.sensor.Goals as goal

pub returns-in-Some-clause-found : goal.returns-in-Some-clause-found
returns-in-Some-clause-found c = sensor_found c.args.bytes.now (body_value c.in-Some.body) c.sensor_of.result c.in-Some.ensures.found c.sensor_of.ensures

pub returns-in-Some-clause-all : goal.returns-in-Some-clause-all
returns-in-Some-clause-all c = sensor_alone c.args.bytes.now (body_value c.in-Some.body) c.sensor_of.result c.in-Some.ensures.all c.sensor_of.ensures

pub returns-in-None-clause-all : goal.returns-in-None-clause-all
returns-in-None-clause-all c = λ s is. absurd (c.in-None.ensures.all is.0 is.1)
