use Rattle.pdr_record.specs.Bodies.{body_value}
use Rattle.net_questions.proofs.Referring.{handle_found, handle_alone}
use Rattle.net_questions.proofs.lints.handles.locator_handle.Goals as goal

pub returns-in-Some-clause-found : goal.returns-in-Some-clause-found
returns-in-Some-clause-found c = handle_found c.args.bytes.now (body_value c.in-Some.body) c.handle_of.result c.in-Some.ensures.found c.handle_of.ensures

pub returns-in-Some-clause-all : goal.returns-in-Some-clause-all
returns-in-Some-clause-all c = handle_alone c.args.bytes.now (body_value c.in-Some.body) c.handle_of.result c.in-Some.ensures.all c.handle_of.ensures

pub returns-in-None-clause-all : goal.returns-in-None-clause-all
returns-in-None-clause-all c = λ handle is. absurd (c.in-None.ensures.all _ is.1)
