use Rattle.std.specs.Prelude.{slice_get}
use Rattle.net_tables.specs.Repositories.{records_of}
use Rattle.net_questions.{specs.Lint.{HasEmptyRange}, proofs.Exists.{of_some, of_none}}
use Rattle.net_questions.proofs.lints.sensors.has_empty_readable_range.Goals as goal

pub returns-in-Some : goal.returns-in-Some
returns-in-Some c =
    of_some (slice_get (records_of c.args.plan.now c.args.node) c.args.index) c.in-Some.listed.now (λ r. HasEmptyRange r.bytes.items) c.has_empty_range.result c.in-Some.ensures
    c.has_empty_range.ensures

pub returns-in-None : goal.returns-in-None
returns-in-None c = of_none (slice_get (records_of c.args.plan.now c.args.node) c.args.index) (λ r. HasEmptyRange r.bytes.items) c.in-None.ensures
