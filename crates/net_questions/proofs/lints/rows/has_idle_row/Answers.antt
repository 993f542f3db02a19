use Rattle.std.specs.Prelude.{slice_get}
use Rattle.net_tables.specs.Routing.{rows_of}
use Rattle.net_questions.{specs.Lint.{LeadsToNobody}, proofs.Exists.{of_some, of_none}}
use Rattle.net_questions.proofs.lints.rows.has_idle_row.Goals as goal

pub returns-in-Some : goal.returns-in-Some
returns-in-Some c =
    of_some (slice_get (rows_of c.args.plan.now c.args.node) c.args.row) c.in-Some.row.now (LeadsToNobody c.args.plan.now) c.leads_to_nobody.result c.in-Some.ensures
    c.leads_to_nobody.ensures

pub returns-in-None : goal.returns-in-None
returns-in-None c = of_none (slice_get (rows_of c.args.plan.now c.args.node) c.args.row) (LeadsToNobody c.args.plan.now) c.in-None.ensures
