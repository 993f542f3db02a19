use Rattle.std.proofs.Common.{◌≡◌, ℕ, List, sym, subst}
use Rattle.pdr_record.{specs.Layouts.{NumericValue}, specs.NumericValues.{numeric_value}}
use Rattle.net_questions.specs.Lint.{IsOver, IsNumericSensor}
use Rattle.net_questions.proofs.lints.sensors.has_empty_range.Goals as goal

pub returns-in-Some : goal.returns-in-Some
returns-in-Some c =
    let value = numeric_value c.in-Some.sensor in
    let there = subst (λ (b : List ℕ). IsNumericSensor b value) c.deref.ensures.value c.in-Some.ensures.found in (
      λ h. (value, there, c.is_over.ensures.0 h),
      λ (s, is, over). (
          let same : value ≡ s = c.in-Some.ensures.all s (subst (λ (b : List ℕ). IsNumericSensor b s) (sym c.deref.ensures.value) is) in
          c.is_over.ensures.1 (subst (λ (t : NumericValue). IsOver t.data_size t.min_readable t.max_readable) (sym same) over)),
    )

pub returns-in-None : goal.returns-in-None
returns-in-None c = (
  λ h. absurd (cc h),
  λ (s, is, over). absurd (c.in-None.ensures.all s (subst (λ (b : List ℕ). IsNumericSensor b s) (sym c.deref.ensures.value) is)),
)
