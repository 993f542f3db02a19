use Rattle.net_tables.proofs.PoolsOf.{in_pool_of}
use Rattle.net_tables.proofs.lookup.is_in_pool_of.Goals as goal

pub returns-in-Some : goal.returns-in-Some
returns-in-Some c =
    let decides = c.is_in_pool.ensures in
    let inside = in_pool_of c.args.plan.now c.args.node c.args.eid.value c.in-Some.pool c.in-Some.ensures in
    (λ h. inside.0 (decides.0 h), λ h. decides.1 (inside.1 h))
