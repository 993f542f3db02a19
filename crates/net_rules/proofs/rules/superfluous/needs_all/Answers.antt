use Rattle.std.{proofs.Common.{◌≡◌, ℕ, ◌≤◌, length, Some, refl, sym, ◌∙◌, subst, arith, inl, inr}, specs.Prelude.{slice_get}, proofs.lemmas.Bool.{cases_lt}, proofs.lemmas.Option.{same_Some, slice_get_read}}
use Rattle.plan_values.{specs.declared.plan.Plan.{Plan}, specs.declared.certificate.RankRange.{RankRange}}
use Rattle.net_tables.{specs.Routing.{Holds, eid_of, eid_number}, specs.TwoPlans.{HasRowEver}}
use Rattle.net_rules.{specs.declared.span.Span.{Span}, specs.PlanTables.{plans_value}, specs.Spans.{IsInSpan}, proofs.RanksByEid.{Has}, proofs.RowsInForce.{all_needed}, proofs.rules.superfluous.needs_all.Goals.{then-not-has_all_of, else-not-has_all_of}}
use Rattle.net_rules.proofs.rules.superfluous.needs_all.Goals as goal

pub loop-range-preserved : goal.loop-range-preserved
loop-range-preserved c =
    let tables = plans_value c.args.plans.now in
    let n = c.args.node in
    let ranges = c.args.ranges.now in
    let range = c.range-item.result in
    let index = c.loop-range.range-index in
    let span = c.if-not-has_all_of.span in
    let here : slice_get ranges index ≡ Some range = slice_get_read ranges (length ranges) index range refl c.loop-range-test.true c.range-item.is in
    let S : Span → Type 0 = λ s. (e : ℕ) → IsInSpan s e → HasRowEver tables n e in
    let routed : (e : ℕ) → IsInSpan span e → HasRowEver tables n e = elim c.if-not-has_all_of.branch [
      | then-not-has_all_of w ↦ subst S (sym w.span-is) w.span_round-span.ensures
      | else-not-has_all_of w ↦ subst S (sym w.span-is) c.loop-range.invariant.span
    ] in
    let inside : (span.first ≤ c.of_range-eids.result.first) × (c.of_range-eids.result.end ≤ span.end) = c.has_all_of-in-loop-range.ensures (cc) in
    let first = c.of_range-eids.ensures.first in
    let end = c.of_range-eids.ensures.end in
    let E : Plan → Type 0 = λ p. eid_number c.eid_at-held.result ≡ eid_of p n in
    let own = subst E c.plan.ensures c.eid_at-held.ensures in
    let needed : (e : ℕ) → Has range e → ¬ Holds tables.plan n e × HasRowEver tables n e = λ e has. (
      λ holds. (let t = c.has.ensures.1 (e, own ∙ holds, (omega (arith, has), omega (arith, has))) in cc),
      routed e (omega (arith, has), omega (arith, has)),
    ) in
    record {
      span = routed;
      needed = λ k lt item is e has. elim (cases_lt k index) [
        | inl before ↦ c.loop-range.invariant.needed k before item is e has
        | inr after ↦ (
            let last : k ≡ index = omega arith in
            let P : ℕ → Type 0 = λ i. slice_get ranges i ≡ Some item in
            let R : RankRange → Type 0 = λ r. Has r e in
            needed e (subst R (same_Some item range (sym (subst P last is) ∙ here)) has))
      ];
    }

pub returns : goal.returns
returns c = λ _ e.
    all_needed (plans_value c.args.plans.now) c.args.node c.args.ranges.now c.loop-range.range-index c.loop-range-test.false c.loop-range.invariant.needed e
