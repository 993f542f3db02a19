use Rattle.std.{proofs.Common.{◌≡◌, ◌↔◌, ◌<◌, ℕ, IsTrue, length, Option, Some, refl, subst, arith}, specs.Prelude.{slice_get, IsSomeAnd}, specs.Ordering.{nat_cmp}, specs.BTreeMap.{get}, proofs.lemmas.Option.{slice_get_read}}
use Rattle.net_questions.proofs.FirstNoted.{earlier_by_first, none_earlier}
use Rattle.net_questions.proofs.lints.record_index.has_earlier_sensor.Goals as goal

pub returns-in-Some : goal.returns-in-Some
returns-in-Some c =
    let indexes = c.args.indexes.now in
    let x = c.in-Some.records.now in
    let look = c.in-Some.ensures.lookup in
    let there : slice_get indexes c.args.node ≡ Some x = slice_get_read indexes (length indexes) c.args.node x refl look.3.0 look.1 in
    earlier_by_first c.args.plan.now c.args.node c.args.id c.args.index (get nat_cmp x.sensors c.args.id) c.is_before.result ((c.requires.each c.args.node x there).sensors c.args.id) (subst (λ (o : Option ℕ). IsTrue c.is_before.result ↔ IsSomeAnd o (λ at. at < c.args.index)) c.first_at.ensures c.is_before.ensures)

pub returns-in-None : goal.returns-in-None
returns-in-None c = none_earlier c.args.plan.now c.args.node c.args.id c.args.index (omega (arith, c.requires.all, c.in-None.ensures.lookup.3))
