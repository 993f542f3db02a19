use Rattle.std.{proofs.Common.{ap}, specs.Prelude.{Contains}}
use Rattle.pdr_record.{specs.Bodies.{body_value}, specs.ListValues.{association_value}}
use Rattle.net_questions.{specs.RecordIndexes.{AssociatesIn}, proofs.Contained.{in_association, noted_on}}
use Rattle.net_questions.proofs.lints.entities.note_body.Goals as goal

pub returns-in-Association : goal.returns-in-Association
returns-in-Association c =
    let body = body_value c.args.body.now in
    let a = association_value c.in-Association.association in
    noted_on c.args.contained.now c.note_all.new.contained (Contains a.contained_entities) (AssociatesIn body) (in_association body a (ap body_value c.in-Association.is)) c.note_all.result c.note_all.ensures
