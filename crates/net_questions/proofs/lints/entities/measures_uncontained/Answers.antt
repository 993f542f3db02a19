use Rattle.std.{proofs.Common.{List, ℕ, subst, ◌↔◌, IsTrue}, specs.Prelude.{slice_get}}
use Rattle.net_tables.specs.Repositories.{records_of}
use Rattle.net_questions.{specs.Sensors.{HasUncontainedEntity}, proofs.Exists.{of_some, of_none}}
use Rattle.net_questions.proofs.lints.entities.measures_uncontained.Goals as goal

pub returns-in-Some : goal.returns-in-Some
returns-in-Some c =
    let told = subst (λ (b : List ℕ). IsTrue c.has_uncontained_entity.result ↔ HasUncontainedEntity c.args.plan.now c.args.node b) c.deref.ensures.value c.has_uncontained_entity.ensures in
    of_some (slice_get (records_of c.args.plan.now c.args.node) c.args.index) c.in-Some.listed.now (λ r. HasUncontainedEntity c.args.plan.now c.args.node r.bytes.items)
    c.has_uncontained_entity.result c.in-Some.ensures told

pub returns-in-None : goal.returns-in-None
returns-in-None c =
    of_none (slice_get (records_of c.args.plan.now c.args.node) c.args.index) (λ r. HasUncontainedEntity c.args.plan.now c.args.node r.bytes.items) c.in-None.ensures
