use Rattle.pdr_repository.proofs.Crcs.{one_crc}
use Rattle.pdr_repository.proofs.laws.one_check_byte.Goals as goal

pub returns : goal.returns
returns c = one_crc
