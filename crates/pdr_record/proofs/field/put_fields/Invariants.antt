use Rattle.std.specs.Prelude.{◌≡◌, length, take, drop}
use Rattle.pdr_record.{specs.Fields.{bytes_of, followed}, specs.Written.{fields_of}}
use Rattle.pdr_record.proofs.field.put_fields.Given as goal

-- the fields so far are written, and the rest is as it was
abbrev pub invariant-loop-field : goal.invariant-loop-field
invariant-loop-field l = record {
  count : l.at ≡ length (bytes_of (fields_of (take l.field-index l.fields)));
  front : l.out ≡ followed (fields_of (take l.field-index l.fields)) (drop l.at l.fn.out);
}
