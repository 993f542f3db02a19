use Rattle.std.{proofs.Common.{◌≡◌, is_some, length, Some, refl, ap, ◌∙◌, arith}, specs.Prelude.{slice_get}, specs.Ordering.{nat_cmp}, specs.BTreeMap.{get}, proofs.lemmas.Option.{slice_get_read}}
use Rattle.net_questions.proofs.FirstNoted.{located_by_first, none_located}
use Rattle.net_questions.proofs.lints.record_index.has_locator_of.Goals as goal

pub returns-in-Some : goal.returns-in-Some
returns-in-Some c =
    let indexes = c.args.indexes.now in
    let x = c.in-Some.records.now in
    let look = c.in-Some.ensures.lookup in
    let there : slice_get indexes c.args.node ≡ Some x = slice_get_read indexes (length indexes) c.args.node x refl look.3.0 look.1 in
    located_by_first c.args.plan.now c.args.node c.args.handle (get nat_cmp x.locators c.args.handle) c.is_some.result ((c.requires.each c.args.node x there).locators c.args.handle) (c.is_some.ensures ∙ ap is_some c.first_at.ensures)

pub returns-in-None : goal.returns-in-None
returns-in-None c = none_located c.args.plan.now c.args.node c.args.handle (omega (arith, c.requires.all, c.in-None.ensures.lookup.3))
