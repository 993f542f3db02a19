-- The codes of the causes for which bytes are no record.
use Rattle.std.specs.Prelude.{ℕ, List, codes}
use Rattle.pdr_record.{specs.declared.record_error.RecordError.{RecordError}, specs.declared.record_error.RecordError.TheVariants.{Short, Version, Length, Ends, LeftOver, Unsupported}}

-- the code that users see
abbrev pub code_of : RecordError → List ℕ
code_of Short = codes "D01"
code_of Version = codes "D02"
code_of Length = codes "D03"
code_of Ends = codes "D04"
code_of LeftOver = codes "D05"
code_of Unsupported = codes "D06"
