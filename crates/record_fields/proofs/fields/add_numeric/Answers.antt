use Rattle.record_fields.proofs.Adding.{four}
use Rattle.record_fields.proofs.fields.add_numeric.Goals as goal

pub returns : goal.returns
returns c = four c.add_limits.result _ _ _ _ _ _ _ _ _ _ _ c.in_ok-add.ensures c.in_ok-add-2.ensures c.in_ok-add_sizes.ensures
    c.add_limits.ensures c.sensor_fields.ensures c.units_fields.ensures
