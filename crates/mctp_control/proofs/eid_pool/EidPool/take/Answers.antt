use Rattle.mctp_control.proofs.PoolLaws.{some_lowest, run_of_one, one_is_run}
use Rattle.mctp_control.proofs.eid_pool.EidPool.take.Goals as goal

pub returns-clause-some : goal.returns-clause-some
returns-clause-some c = some_lowest _ _ _ c.take_block.ensures.some

pub returns-clause-none : goal.returns-clause-none
returns-clause-none c =
    (λ e eid f. c.take_block.ensures.none.0 e eid (one_is_run _ eid f), λ none. c.take_block.ensures.none.1 (λ eid h. none eid (run_of_one _ eid h)))
