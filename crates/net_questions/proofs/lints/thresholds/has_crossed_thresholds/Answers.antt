use Rattle.std.specs.Prelude.{slice_get}
use Rattle.net_tables.specs.Repositories.{records_of}
use Rattle.net_questions.{specs.Sensors.{AreOfCrossed}, proofs.Exists.{of_some, of_none}}
use Rattle.net_questions.proofs.lints.thresholds.has_crossed_thresholds.Goals as goal

pub returns-in-Some : goal.returns-in-Some
returns-in-Some c =
    of_some (slice_get (records_of c.args.plan.now c.args.node) c.args.index) c.in-Some.listed.now (λ r. AreOfCrossed r.bytes.items) c.are_of_crossed.result c.in-Some.ensures
    c.are_of_crossed.ensures

pub returns-in-None : goal.returns-in-None
returns-in-None c = of_none (slice_get (records_of c.args.plan.now c.args.node) c.args.index) (λ r. AreOfCrossed r.bytes.items) c.in-None.ensures
