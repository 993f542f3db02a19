use Rattle.std.{proofs.Common.{◌≡◌, ℕ, true, subst}, specs.Prelude.{cond}, specs.BTreeMap.{is_at}, specs.BTreeSet.{contains}}
use Rattle.pdr_record.specs.Values.{entity_value}
use Rattle.net_questions.{specs.RecordIndexes.{by_entity}, proofs.Contained.{noted}}
use Rattle.net_questions.proofs.lints.entities.note.Goals as goal

pub returns : goal.returns
returns c =
    let old = c.args.contained.now in
    let new = c.insert.new.self in
    let P : ℕ × ℕ × ℕ → Type 0 = λ k. (q : ℕ × ℕ × ℕ) → contains by_entity new q ≡ cond (is_at (by_entity k) q) true (contains by_entity old q) in
    noted old new (entity_value c.args.entity) (subst P c.key_of.ensures c.in_ok-insert.ensures.updates.0)
