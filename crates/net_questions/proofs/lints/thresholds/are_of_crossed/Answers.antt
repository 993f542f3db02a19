use Rattle.std.proofs.Common.{ℕ, List, sym, subst}
use Rattle.pdr_record.specs.NumericValues.{numeric_value}
use Rattle.net_questions.{specs.Lint.{IsNumericSensor}, specs.Sensors.{HasCrossed}, proofs.Exists.{of_only, of_nobody}}
use Rattle.net_questions.proofs.lints.thresholds.are_of_crossed.Goals as goal

pub returns-in-Some : goal.returns-in-Some
returns-in-Some c =
    let bytes = c.args.listed.now.bytes.items in
    let value = numeric_value c.in-Some.sensor in
    let there = subst (λ (b : List ℕ). IsNumericSensor b value) c.deref.ensures.value c.in-Some.ensures.found in
    of_only (IsNumericSensor bytes) value HasCrossed c.has_crossed.result there
    (λ s is. c.in-Some.ensures.all s (subst (λ (b : List ℕ). IsNumericSensor b s) (sym c.deref.ensures.value) is)) c.has_crossed.ensures

pub returns-in-None : goal.returns-in-None
returns-in-None c =
    of_nobody (IsNumericSensor c.args.listed.now.bytes.items) HasCrossed
    (λ s is. c.in-None.ensures.all s (subst (λ (b : List ℕ). IsNumericSensor b s) (sym c.deref.ensures.value) is))
