use Rattle.mctp_control.{specs.Pools.{pool_value}, proofs.PoolLaws.{IsRunSoFar}}
use Rattle.mctp_control.proofs.eid_pool.EidPool.lowest_run.Given as goal

abbrev pub invariant-loop-eid : goal.invariant-loop-eid
invariant-loop-eid l = IsRunSoFar (pool_value l.self) l.count l.first l.eid
