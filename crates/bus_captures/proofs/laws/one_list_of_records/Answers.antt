use Rattle.bus_captures.proofs.RecordLaws.{one_list}
use Rattle.bus_captures.proofs.laws.one_list_of_records.Goals as goal

pub returns : goal.returns
returns c = one_list
