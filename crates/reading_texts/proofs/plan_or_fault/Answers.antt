use Rattle.std.proofs.Common.{◌≡◌, Err, rules}
use Rattle.json.specs.Value.{value_view}
use Rattle.reading_texts.proofs.TextErrors.{plan_sound, plan_told}
use Rattle.reading_texts.proofs.plan_or_fault.Goals as goal

pub returns-in_err-value-clause-refused : goal.returns-in_err-value-clause-refused
returns-in_err-value-clause-refused c =
    let e = c.in_err-value.field-0.0 in
    let ended : c.from_residual.result ≡ Err e = search rules in
    rw ended (plan_told c.args.text.now e c.in_err-value.ensures.refused)

pub no_memory-requires : goal.no_memory-requires
no_memory-requires c = plan_sound (value_view c.in_ok-value.value) c.in-Err.error c.in_ok-value.ensures.sound c.in-Err.ensures.refused
