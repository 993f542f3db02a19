use Rattle.std.{proofs.Common.{◌≡◌, ℕ, length, Some, refl, sym, ◌∙◌, subst, arith, inl, inr}, specs.Prelude.{slice_get}, proofs.lemmas.Bool.{cases_lt}, proofs.lemmas.Option.{same_Some, slice_get_read, slice_get_within}}
use Rattle.plan_values.specs.declared.nodes.Row.{Row}
use Rattle.net_tables.specs.Rows.{IsApartFromEarlier}
use Rattle.net_rules.proofs.rules.rows.first_overlapping.Goals as goal

pub returns-then-not-is_apart_from_all : goal.returns-then-not-is_apart_from_all
unfolding IsApartFromEarlier
returns-then-not-is_apart_from_all c =
    let rows = c.args.rows.now in
    let row = c.index-rows-r.result in
    let here = slice_get_read rows (length rows) c.loop-r.r row refl c.loop-r-test.true c.index-rows-r.is in
    (λ apart. (let t = c.is_apart_from_all.ensures.1 (apart row here) in cc), c.loop-r.invariant)

pub loop-r-preserved : goal.loop-r-preserved
unfolding IsApartFromEarlier
loop-r-preserved c =
    let rows = c.args.rows.now in
    let r = c.loop-r.r in
    let row = c.index-rows-r.result in
    let there = slice_get_read rows (length rows) r row refl c.loop-r-test.true c.index-rows-r.is in
    let here : IsApartFromEarlier rows r row = c.is_apart_from_all.ensures.0 (cc) in
    λ k less item is. elim (cases_lt k r) [
      | inl before ↦ c.loop-r.invariant k before item is
      | inr after ↦ (
          let last : k ≡ r = omega arith in
          let P : ℕ → Type 0 = λ i. slice_get rows i ≡ Some item in
          let A : Row → Type 0 = λ x. IsApartFromEarlier rows r x in
          let B : ℕ → Type 0 = λ i. IsApartFromEarlier rows i item in
          subst B (sym last) (subst A (same_Some row item (sym there ∙ subst P last is)) here))
    ]

pub returns : goal.returns
returns c = λ k item is. (let within = slice_get_within c.args.rows.now k item is in c.loop-r.invariant k (omega arith) item is)
