use Rattle.net_tables.{specs.Ownership.{IsInPool, IsInPoolOf}, proofs.PoolsOf.{in_pool_of, in_no_pool}}
use Rattle.std.proofs.Common.{ℕ}
use Rattle.net_explained.proofs.Found.{least_alike}
use Rattle.net_explained.proofs.causes.pools.least_outside_pool_of.Goals as goal

pub returns-in-Some : goal.returns-in-Some
returns-in-Some c =
    let there = λ (e : ℕ). in_pool_of c.args.plan.now c.args.node e c.in-Some.around c.in-Some.ensures in
    least_alike (λ e. IsInPool c.args.pool e × ¬ IsInPool c.in-Some.around e) (λ e. IsInPool c.args.pool e × ¬ IsInPoolOf c.args.plan.now c.args.node e) c.least_outside.result
    (λ e both. (both.0, λ inside. both.1 ((there e).1 inside))) (λ e both. (both.0, λ inside. both.1 ((there e).0 inside))) c.least_outside.ensures

pub returns-in-None : goal.returns-in-None
returns-in-None c =
    least_alike (λ e. IsInPool c.args.pool e) (λ e. IsInPool c.args.pool e × ¬ IsInPoolOf c.args.plan.now c.args.node e) c.least_in.result
    (λ e inside. (inside, in_no_pool c.args.plan.now c.args.node e c.in-None.ensures)) (λ e both. both.0) c.least_in.ensures
