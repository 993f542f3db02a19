use Rattle.pdr_record.proofs.RecordFaults.{all_read, each_refused}
use Rattle.pdr_record.proofs.record.RecordWire.read.Goals as goal

pub returns-clause-all : goal.returns-clause-all
returns-clause-all c = all_read c.of.result c.args.bytes.now c.of.ensures.ok c.of.ensures.refused

pub returns-clause-refused : goal.returns-clause-refused
returns-clause-refused c = each_refused c.of.result c.args.bytes.now c.of.ensures.ok c.of.ensures.refused
