use Rattle.std.proofs.Common.{rules, string_bytes, map}
use Rattle.record_fields.{specs.Meanings.{named_of}, specs.Said.{IsSaidOf}, proofs.Adding.{all_more, all_words}}
use Rattle.record_fields.proofs.said.says_all.Goals as goal

pub loop-word-preserved : goal.loop-word-preserved
loop-word-preserved c =
    all_more (IsSaidOf (map named_of c.in_ok-fields.fields.items)) (λ s. string_bytes s) c.args.words.now c.loop-word.word-index c.word-item.result
    c.loop-word-test.true (search rules) c.loop-word.invariant (search rules)

pub returns : goal.returns
returns c =
    λ yes. all_words (λ fields. IsSaidOf fields) _ _ (λ s. string_bytes s) c.args.words.now c.loop-word.word-index c.loop-word-test.false
    c.in_ok-fields.ensures c.loop-word.invariant
