-- What the bodies of the code stand for.
use Rattle.pdr_record.{specs.declared.body.Body.{Body}, specs.Records.{BodyValue, Terminus, Numeric, State, Association, Other}, specs.Values.{terminus_value}, specs.NumericValues.{numeric_value}, specs.ListValues.{state_value, association_value}}
use Rattle.pdr_record.specs.declared.body.Body.TheVariants as code

abbrev pub body_value : Body → BodyValue
body_value (code.Terminus t) = Terminus (terminus_value t)
body_value (code.Numeric n) = Numeric (numeric_value n)
body_value (code.State s) = State (state_value s)
body_value (code.Association a) = Association (association_value a)
body_value (code.Other number bytes) = Other number bytes.now
