use Rattle.std.proofs.Common.{◌∙◌, sym}
use Rattle.pdr_record.specs.RecordLaws.{one_record}
use Rattle.pdr_record.proofs.laws.one_spelling.Goals as goal

pub returns-clause-value : goal.returns-clause-value
returns-clause-value c r s bytes hr hs = one_record r s hr.0 hs.0 (sym hr.1 ∙ hs.1)
