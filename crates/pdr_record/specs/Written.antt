-- The fields that the code writes.
use Rattle.std.specs.Prelude.{List, map}
use Rattle.pdr_record.specs.declared.field.Field.{Field}
use Rattle.pdr_record.specs.declared.field.Field.TheVariants as code
use Rattle.pdr_record.specs.Fields as value

abbrev pub field_of : Field → value.Field
field_of (code.U8 n) = value.U8 n
field_of (code.U16 n) = value.U16 n
field_of (code.U32 n) = value.U32 n
field_of (code.Raw bytes) = value.Raw bytes.now

abbrev pub fields_of : List Field → List value.Field
fields_of fs = map field_of fs
