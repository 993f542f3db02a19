use Rattle.std.proofs.Common.{◌≡◌, Err, rules}
use Rattle.json.specs.Value.{value_view}
use Rattle.plan_values.specs.PlanValues.{plan_value}
use Rattle.reading_texts.proofs.TextErrors.{certificate_sound, certificate_told}
use Rattle.reading_texts.proofs.certificate_or_fault.Goals as goal

pub returns-in_err-value-clause-refused : goal.returns-in_err-value-clause-refused
returns-in_err-value-clause-refused c =
    let e = c.in_err-value.field-0.0 in
    let ended : c.from_residual.result ≡ Err e = search rules in
    rw ended (certificate_told (plan_value c.args.plan.now) c.args.text.now e c.in_err-value.ensures.refused)

pub no_memory-requires : goal.no_memory-requires
no_memory-requires c = certificate_sound (plan_value c.args.plan.now) c.args.text.now (value_view c.in_ok-value.value) c.in-Err.error c.in_ok-value.ensures.sound c.in-Err.ensures.refused
