use Rattle.std.proofs.Common.{refl}
use Rattle.net_rules.specs.Pools.{IsInItsPool, IsInOwnersPool}
use Rattle.net_explained.proofs.causes.pools.eid_out_of_its_pool.Goals as goal

pub returns-in-Some-clause-cause : goal.returns-in-Some-clause-cause
unfolding IsInItsPool IsInOwnersPool
returns-in-Some-clause-cause c =
    let holds = c.holds.ensures.0 c.if-not-holds.false in
    let owned = c.in-Some.ensures.0 in
    let out = c.in-Some.ensures.1 in
    ((refl, (holds, owned, out)), λ met. out ((met holds).0 c.in-Some.owner owned))
