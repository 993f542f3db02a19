-- The ranges that are left decide, from the end of the last.
use Rattle.std.proofs.Common.{◌≡◌, map, drop}
use Rattle.net_plan.specs.CertificateReading.{ascends}
use Rattle.plan_values.specs.CertificateValues.{range_value}
use Rattle.net_plan.proofs.certificate_text.ascends.Given as goal

abbrev pub invariant-loop-range : goal.invariant-loop-range
invariant-loop-range l = ascends l.end (map range_value (drop l.range-index l.ranges)) ≡ ascends 0 (map range_value l.ranges)
