-- What a record of the code stands for.
use Rattle.pdr_record.{specs.declared.record.Record.{Record}, specs.Bodies.{body_value}, specs.Records.{RecordValue, record_of}}

abbrev pub record_value : Record → RecordValue
record_value r = record_of r.handle r.change (body_value r.body)
