use Rattle.net_tables.proofs.PoolsOf.{in_pool_of, in_no_pool}
use Rattle.net_questions.proofs.lints.rows.meets_pool_of.Goals as goal

pub returns-in-Some : goal.returns-in-Some
returns-in-Some c =
    let plan = c.args.plan.now in
    let n = c.args.node in
    let pool = c.in-Some.pool in (
      λ h. (let met = c.meets.ensures.0 h in (met.0, met.1, (in_pool_of plan n met.0 pool c.in-Some.ensures).0 met.2)),
      λ met. c.meets.ensures.1 (met.0, met.1, (in_pool_of plan n met.0 pool c.in-Some.ensures).1 met.2),
    )

pub returns-in-None : goal.returns-in-None
returns-in-None c = (λ h. absurd (cc h), λ met. absurd (in_no_pool c.args.plan.now c.args.node met.0 c.in-None.ensures met.2))
