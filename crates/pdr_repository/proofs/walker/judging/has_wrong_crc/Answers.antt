use Rattle.pdr_repository.proofs.Handles.{wrong_crc}
use Rattle.pdr_repository.proofs.walker.judging.has_wrong_crc.Goals as goal

pub returns-in-Some : goal.returns-in-Some
returns-in-Some c = wrong_crc _ _ _ _ c.in-Some.is (c.crc8_after.ensures c.args.before.now c.crc8.ensures)
