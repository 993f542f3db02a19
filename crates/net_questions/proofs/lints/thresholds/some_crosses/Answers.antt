use Rattle.std.proofs.Common.{arith, below_more}
use Rattle.pdr_record.specs.NumericValues.{numeric_value}
use Rattle.net_questions.{specs.Sensors.{CrossesLater}, proofs.Exists.{found, not_found}, proofs.Crossing.{within}}
use Rattle.net_questions.proofs.lints.thresholds.some_crosses.Goals as goal

pub returns-then-crosses_later : goal.returns-then-crosses_later
returns-then-crosses_later c = found (CrossesLater (numeric_value c.args.sensor.now)) c.loop-lower.lower (c.crosses_later.ensures.0 c.if-crosses_later.true)

pub loop-lower-preserved : goal.loop-lower-preserved
loop-lower-preserved c = below_more _ _ c.loop-lower.invariant (λ over. cc (c.crosses_later.ensures.1 over, c.if-crosses_later.false))

pub returns : goal.returns
returns c =
    not_found (CrossesLater (numeric_value c.args.sensor.now)) 6 c.loop-lower.lower (omega arith)
    (λ i over. within (numeric_value c.args.sensor.now) i over.1.1.0 over.1.1.2) c.loop-lower.invariant
