use Rattle.mctp_control.proofs.PoolLaws.{no_mark}
use Rattle.mctp_control.proofs.eid_pool.EidPool.new.Goals as goal

pub returns-clause-none_out : goal.returns-clause-none_out
returns-clause-none_out c = λ eid h. no_mark 256 eid h.1
