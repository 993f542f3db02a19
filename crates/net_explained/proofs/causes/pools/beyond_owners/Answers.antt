use Rattle.std.{proofs.Common.{ℕ, ◌∙◌, subst}, proofs.lemmas.Option.{same_Some}}
use Rattle.net_tables.specs.Ownership.{IsInPool, IsInPoolOf}
use Rattle.net_rules.specs.Pools.{LiesInOwnersPool}
use Rattle.net_explained.proofs.PoolFaults.{lies_in}
use Rattle.net_explained.proofs.causes.pools.beyond_owners.Goals as goal

pub returns-in-None-least_outside_pool_of : goal.returns-in-None-least_outside_pool_of
unfolding LiesInOwnersPool
returns-in-None-least_outside_pool_of c =
    let plan = c.args.plan.now in
    let P : ℕ → Type 0 = λ owner. (e : ℕ) → IsInPool c.args.pool e → IsInPoolOf plan owner e in
    λ other owned. subst P (same_Some c.in-Some.owner other (c.in-Some.ensures ∙ owned))
    (λ e inside. lies_in plan c.in-Some.owner e (λ out. c.in-None-least_outside_pool_of.ensures e (inside, out)))
