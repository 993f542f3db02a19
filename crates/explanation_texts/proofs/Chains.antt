-- Where records of a bad chain have handles of their own.
use Rattle.std.proofs.Common.{ℕ, Some, None, arith}
use Rattle.net_rules.{specs.declared.rule.Rule.TheVariants.{C12, C14}, specs.Certificates.{CanBeMetBefore}, specs.Faults.{order_of}, specs.RecordChains.{HaveNewHandles}}
use Rattle.net_tables.specs.Repositories.{records_of}
use Rattle.plan_values.specs.declared.plan.Plan.{Plan}

-- what comes before chains in the order of the rules is met
pub chain_handles : (plan : Plan) (n : ℕ) → CanBeMetBefore plan (order_of C14) → HaveNewHandles (records_of plan n)
chain_handles plan n can j r at = can.plan_meets C12 (omega arith) n (Some j) None r at
