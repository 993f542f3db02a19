use Rattle.std.proofs.Common.{ap, ◌∙◌}
use Rattle.pdr_record.specs.Values.{ranges_value}
use Rattle.record_fields.{specs.Named.{ranges_named}, proofs.Adding.{three}}
use Rattle.record_fields.proofs.fields.add_limits.Goals as goal

pub returns : goal.returns
returns c = three c.add-3.result _ _ _ _ _ _ _ _ _ _ c.in_ok-add.ensures c.in_ok-add-2.ensures c.add-3.ensures
    c.timing_fields.ensures c.readable_fields.ensures
    (c.ranges_fields.ensures ∙ ap (λ k. ranges_named k (ranges_value c.args.numeric.now.ranges)) c.code-format.ensures)
