use Rattle.bus_captures.proofs.ReadingBack.{reads_back}
use Rattle.bus_captures.proofs.writing.written_reads_back.Goals as goal

pub returns : goal.returns
returns c = reads_back
