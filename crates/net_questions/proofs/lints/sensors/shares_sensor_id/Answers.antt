use Rattle.std.{proofs.Common.{List, ℕ, subst, ◌↔◌, IsTrue}, specs.Prelude.{slice_get}}
use Rattle.net_tables.specs.Repositories.{records_of}
use Rattle.net_questions.{specs.Lint.{RepeatsSensorId}, proofs.Exists.{of_some, of_none}}
use Rattle.net_questions.proofs.lints.sensors.shares_sensor_id.Goals as goal

pub returns-in-Some : goal.returns-in-Some
returns-in-Some c =
    let told =
    subst (λ (b : List ℕ). IsTrue c.repeats_sensor_id.result ↔ RepeatsSensorId c.args.plan.now c.args.node c.args.index b) c.deref.ensures.value c.repeats_sensor_id.ensures in
    of_some (slice_get (records_of c.args.plan.now c.args.node) c.args.index) c.in-Some.listed.now (λ r. RepeatsSensorId c.args.plan.now c.args.node c.args.index r.bytes.items)
    c.repeats_sensor_id.result c.in-Some.ensures told

pub returns-in-None : goal.returns-in-None
returns-in-None c =
    of_none (slice_get (records_of c.args.plan.now c.args.node) c.args.index) (λ r. RepeatsSensorId c.args.plan.now c.args.node c.args.index r.bytes.items) c.in-None.ensures
