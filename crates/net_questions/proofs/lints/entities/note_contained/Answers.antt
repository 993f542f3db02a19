use Rattle.pdr_record.specs.Bodies.{body_value}
use Rattle.net_questions.{specs.RecordIndexes.{AssociatesIn}, specs.Sensors.{Associates}, proofs.Contained.{noted_none, noted_on, of_bytes}}
use Rattle.net_questions.proofs.lints.entities.note_contained.Goals as goal

pub returns-in-Some : goal.returns-in-Some
returns-in-Some c =
    let body = body_value c.in-Some.body in
    noted_on c.args.contained.now c.note_body.new.contained (AssociatesIn body) (Associates c.args.bytes.now)
    (of_bytes c.args.bytes.now body c.in-Some.ensures.found c.in-Some.ensures.all) c.note_body.result c.note_body.ensures

pub returns-in-None : goal.returns-in-None
returns-in-None c = noted_none c.args.contained.now (Associates c.args.bytes.now) (λ e is. c.in-None.ensures.all _ is.1)
