-- Records of the code, and what becomes of them.
use Rattle.bus_captures.{specs.declared.record.Record.{Record}, specs.Files.{FileRecord}}

abbrev pub record_value : Record → FileRecord
record_value r = record { seconds = r.seconds; fraction = r.fraction; original = r.original; bytes = r.bytes.now }
