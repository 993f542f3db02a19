use Rattle.std.proofs.Common.{◌<◌, arith, below_more}
use Rattle.pdr_record.specs.NumericValues.{numeric_value}
use Rattle.net_questions.{specs.Sensors.{AreCrossed}, proofs.Exists.{found, not_found}, proofs.Crossing.{within}}
use Rattle.net_questions.proofs.lints.thresholds.crosses_later.Goals as goal

pub returns-then-is_over_later : goal.returns-then-is_over_later
returns-then-is_over_later c =
    found (λ j. (c.args.lower < j) × AreCrossed (numeric_value c.args.sensor.now) c.args.lower j) c.loop-higher.higher (c.is_over_later.ensures.0 c.if-is_over_later.true)

pub loop-higher-preserved : goal.loop-higher-preserved
loop-higher-preserved c = below_more _ _ c.loop-higher.invariant (λ over. cc (c.is_over_later.ensures.1 over, c.if-is_over_later.false))

pub returns : goal.returns
returns c =
    not_found (λ j. (c.args.lower < j) × AreCrossed (numeric_value c.args.sensor.now) c.args.lower j) 6 c.loop-higher.higher (omega arith)
    (λ j over. within (numeric_value c.args.sensor.now) j over.1.1 over.1.3) c.loop-higher.invariant
