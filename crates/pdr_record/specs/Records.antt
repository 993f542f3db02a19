-- Records and their bytes, and why bytes are no record (DSP0248).
use Rattle.std.specs.Prelude.{◌≡◌, ◌≢◌, ℕ, List, [], ◌∷◌, ◌++◌, length, ⊤}
use Rattle.mctp_transport.specs.Wire.{Spells}
use Rattle.pdr_record.{specs.Fields.{Field, U8, U16, U32, Raw, bytes_of, Fit}, specs.Layouts.{TerminusValue, terminus_fields, NumericValue, numeric_fields, IsNumeric, StateValue, state_fields, AssociationValue, association_fields}}

-- what follows the header of a record: one of four layouts, or bytes under another type's number
pub data BodyValue : Type 0 where
  Terminus : TerminusValue → BodyValue
  Numeric : NumericValue → BodyValue
  State : StateValue → BodyValue
  Association : AssociationValue → BodyValue
  Other : ℕ → List ℕ → BodyValue

-- the number of a record's type
abbrev pub type_of : BodyValue → ℕ
type_of (Terminus t) = 1
type_of (Numeric n) = 2
type_of (State s) = 4
type_of (Association a) = 15
type_of (Other number bytes) = number

-- the fields of a body, in their order
abbrev pub body_fields : BodyValue → List Field
body_fields (Terminus t) = terminus_fields t
body_fields (Numeric n) = numeric_fields n
body_fields (State s) = state_fields s
body_fields (Association a) = association_fields a
body_fields (Other number bytes) = Raw bytes ∷ []

-- a type that has none of the four layouts
pub record IsOtherType (number : ℕ) : Type 0 where
  pub no_terminus : number ≢ 1
  pub no_numeric : number ≢ 2
  pub no_state : number ≢ 4
  pub no_association : number ≢ 15

-- what the fields of a body have to do with each other
abbrev pub IsLayout : BodyValue → Type 0
IsLayout (Terminus t) = ⊤
IsLayout (Numeric n) = IsNumeric n
IsLayout (State s) = ⊤
IsLayout (Association a) = ⊤
IsLayout (Other number bytes) = IsOtherType number

-- a body whose numbers fit their fields
pub record IsBody (b : BodyValue) : Type 0 where
  pub fits : Fit (body_fields b)
  pub layout : IsLayout b

-- a record: its handle, its change number and its body
pub record RecordValue : Type 0 where
  pub handle : ℕ
  pub change : ℕ
  pub body : BodyValue

abbrev pub record_of : ℕ → ℕ → BodyValue → RecordValue
record_of handle change body = record { handle = handle; change = change; body = body }

-- the common header, whose last field is the number of bytes that follow it
abbrev pub header_fields : RecordValue → List Field
header_fields r =
    U32 r.handle ∷ U8 1 ∷ U8 (type_of r.body) ∷ U16 r.change ∷ U16 (length (bytes_of (body_fields r.body))) ∷ []

abbrev pub record_bytes : RecordValue → List ℕ
record_bytes r = bytes_of (header_fields r ++ body_fields r.body)

-- a record whose numbers fit their fields
pub record IsRecord (r : RecordValue) : Type 0 where
  pub header : Fit (header_fields r)
  pub body : IsBody r.body

-- the bytes are the record's, all of them
abbrev pub Spelled : RecordValue → List ℕ → Type 0
Spelled r bytes = Spells IsRecord record_bytes r bytes

-- the bytes are those of a record of this handle, all of them, and its type has none of the four layouts
abbrev pub IsOtherRecordOf : ℕ → List ℕ → Type 0
IsOtherRecordOf handle bytes =
    (r : RecordValue) × Spelled r bytes × IsOtherType (type_of r.body) × (r.handle ≡ handle)
