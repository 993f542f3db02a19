use Rattle.std.proofs.Common.{ℕ, refl}
use Rattle.net_tables.proofs.PoolsOf.{in_pool_of, in_no_pool}
use Rattle.net_rules.proofs.rules.pools.lies_apart_from_pool_of.Goals as goal

pub returns-in-Some : goal.returns-in-Some
returns-in-Some c =
    let decides = c.are_apart.ensures in
    let inside = λ (e : ℕ). in_pool_of c.args.plan.now c.args.node e c.in-Some.other c.in-Some.ensures in
    (λ h e there beside. decides.0 h e there ((inside e).1 beside), λ apart. decides.1 (λ e there beside. apart e there ((inside e).0 beside)))

pub returns-in-None : goal.returns-in-None
returns-in-None c = (λ h e there. in_no_pool c.args.plan.now c.args.node e c.in-None.ensures, λ apart. refl)
