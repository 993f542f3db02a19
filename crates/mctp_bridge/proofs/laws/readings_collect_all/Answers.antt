use Rattle.mctp_bridge.proofs.Readings.{reading_collects}
use Rattle.mctp_bridge.proofs.laws.readings_collect_all.Goals as goal

pub returns : goal.returns
returns c table xs told reads = reading_collects table told.are xs reads
