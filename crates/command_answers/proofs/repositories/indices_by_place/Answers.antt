use Rattle.std.{proofs.Common.{◌≡◌, ◌∙◌, ◌==◌, ◌<◌, ◌+◌, ℕ, List, Option, Some, None, cond, length, map, take, ap, sym, subst, arith}, specs.Option.{option_or}, specs.Prelude.{position, slice_index_or}}
use Rattle.net_rules.proofs.KnownEnds.{written_whole}
use Rattle.plan_values.specs.declared.certificate.RecordPlace.{RecordPlace}
use Rattle.command_answers.{specs.Ordering.{AreFirstAt}, proofs.Places.{first_given_more}}
use Rattle.command_answers.proofs.repositories.indices_by_place.Goals as goal

pub loop-index-preserved : goal.loop-index-preserved
loop-index-preserved c =
    let i = c.loop-index.index in
    let all = c.args.places.now in
    let given = c.index-places-index.result in
    let old = c.loop-index.by_place.items in
    let new = c.note_first.new.by_place in
    let L : List (Option ℕ) → Type 0 = λ xs. length new ≡ length xs in
    let long : length new ≡ length old = subst L c.deref_mut.ensures.value c.note_first.ensures.long in
    let N : List (Option ℕ) → Type 0 = λ xs. (k : ℕ) → k < length xs
    → slice_index_or new k None ≡ option_or (slice_index_or xs k None) (cond (c.from.result == k) (Some i) None) in
    let noted : N old = subst N c.deref_mut.ensures.value c.note_first.ensures.noted in
    let value : RecordPlace → ℕ = λ p. p.value in
    let found : AreFirstAt (map value (take (i + 1) all)) new = λ k lt.
    noted k (omega (arith, lt, long))
    ∙ (ap (λ o. option_or o (cond (c.from.result == k) (Some i) None)) (c.loop-index.invariant.1 k (omega (arith, lt, long)))
    ∙ (ap (λ n. option_or (position (λ g. g == k) (map value (take i all))) (cond (n == k) (Some i) None)) c.from.ensures
    ∙ sym (first_given_more value all i given k c.loop-index-test.true c.index-places-index.is))) in
    let whole = written_whole c.loop-index.by_place.len new old long c.loop-index.by_place.ok.0 in
    subst (λ xs. (length xs ≡ c.args.count) × AreFirstAt (map value (take (i + 1) all)) xs) (sym whole) (long ∙ c.loop-index.invariant.0, found)
