-- That a record is lawful has one proof at most, as a fact of a type has to.
use Rattle.std.{specs.Prelude.{List}, proofs.Props.{props}, specs.List.{AllByRecursion-prop}}
use Rattle.pdr_record.{specs.Fields.{Field, U8, U16, U32, Raw, FitsField, Fit}, specs.Records.{BodyValue, Terminus, Numeric, State, Association, Other, IsLayout, IsBody, body_fields, RecordValue, header_fields, IsRecord}}

field_prop : (f : Field) → IsProp (FitsField f)
field_prop (U8 n) = hlevel props
field_prop (U16 n) = hlevel props
field_prop (U32 n) = hlevel props
field_prop (Raw bytes) = hlevel props

fit_prop : (fs : List Field) → IsProp (Fit fs)
fit_prop fs = AllByRecursion-prop FitsField field_prop fs

layout_prop : (b : BodyValue) → IsProp (IsLayout b)
layout_prop (Terminus t) = hlevel props
layout_prop (Numeric n) = hlevel props
layout_prop (State s) = hlevel props
layout_prop (Association a) = hlevel props
layout_prop (Other number bytes) = hlevel props

body_prop : (b : BodyValue) → IsProp (IsBody b)
body_prop b = hlevel (fit_prop (body_fields b), layout_prop b)

pub record_prop : (r : RecordValue) → IsProp (IsRecord r)
record_prop r = hlevel (fit_prop (header_fields r), body_prop r.body)
