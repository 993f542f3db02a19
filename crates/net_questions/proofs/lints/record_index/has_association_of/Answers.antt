use Rattle.std.{proofs.Common.{◌≡◌, ℕ, length, Some, refl, sym, ◌∙◌, ap, arith}, specs.Prelude.{slice_get}, specs.BTreeSet.{contains}, proofs.lemmas.Option.{slice_get_read}}
use Rattle.pdr_record.specs.Values.{entity_value}
use Rattle.net_questions.{specs.RecordIndexes.{by_entity, entity_key}, proofs.Contained.{none_associated}}
use Rattle.net_questions.proofs.lints.record_index.has_association_of.Goals as goal

pub returns-in-Some : goal.returns-in-Some
returns-in-Some c =
    let indexes = c.args.indexes.now in
    let x = c.in-Some.records.now in
    let e = entity_value c.args.entity in
    let look = c.in-Some.ensures.lookup in
    let there : slice_get indexes c.args.node ≡ Some x = slice_get_read indexes (length indexes) c.args.node x refl look.3.0 look.1 in
    let told : c.contains.result ≡ contains by_entity x.contained (entity_key e) = c.contains.ensures ∙ ap (λ (k : ℕ × ℕ × ℕ). contains by_entity x.contained k) c.key_of.ensures in
    let has = (c.requires.each c.args.node x there).contained e in
    (λ h. has.0 (sym told ∙ h), λ at. told ∙ has.1 at)

pub returns-in-None : goal.returns-in-None
returns-in-None c = none_associated c.args.plan.now c.args.node (entity_value c.args.entity) (omega (arith, c.requires.all, c.in-None.ensures.lookup.3))
