-- Of what a plan says something, that is in the plan.
use Rattle.std.{proofs.Common.{◌≡◌, ℕ, ◌<◌, ◌≤◌, length, Some, inl, inr}, specs.Prelude.{slice_get}, proofs.lemmas.Bool.{cases_lt}, proofs.lemmas.Option.{slice_get_past}}
use Rattle.plan_values.{specs.declared.plan.Plan.{Plan}, specs.declared.nodes.Port.{Port}, specs.declared.nodes.Pool.{Pool}, specs.declared.nodes.Row.{Row}, specs.declared.terminus.PlannedRecord.{PlannedRecord}, specs.declared.terminus.PlannedTerminus.{PlannedTerminus}}
use Rattle.net_tables.{specs.Routing.{HasRow, IsBridge, rows_of}, specs.Ownership.{IsOwnedBy, pool_of, IsInPoolOf}, specs.Repositories.{terminus_of, records_of}}
use Rattle.net_rules.proofs.Beyond.{no_owner}
use Rattle.net_questions.specs.Ports.{IsPort}

by_past : (plan : Plan) (n : ℕ) → (length plan.nodes.items ≤ n → ⊥) → n < length plan.nodes.items
by_past plan n not = elim (cases_lt n (length plan.nodes.items)) [ inl lt ↦ lt | inr past ↦ absurd (not past) ]

pub port_within : (plan : Plan) (n p : ℕ) (port : Port) → IsPort plan n p port → n < length plan.nodes.items
port_within plan n p port is = by_past plan n (λ past. none past is)
  where
    none : length plan.nodes.items ≤ n → IsPort plan n p port → ⊥
    none past = rw (slice_get_past plan.nodes.items n past) (λ is. cc)

pub row_within : (plan : Plan) (n r : ℕ) (row : Row) → slice_get (rows_of plan n) r ≡ Some row → n < length plan.nodes.items
row_within plan n r row is = by_past plan n (λ past. none past is)
  where
    none : length plan.nodes.items ≤ n → slice_get (rows_of plan n) r ≡ Some row → ⊥
    none past = rw (slice_get_past plan.nodes.items n past) (λ is. cc)

pub has_row_within : (plan : Plan) (n e : ℕ) → HasRow plan n e → n < length plan.nodes.items
has_row_within plan n e has = row_within plan n has.1.0 has.1.1 has.1.2

pub record_within : (plan : Plan) (n j : ℕ) (r : PlannedRecord) → slice_get (records_of plan n) j ≡ Some r → n < length plan.nodes.items
record_within plan n j r is = by_past plan n (λ past. none past is)
  where
    none : length plan.nodes.items ≤ n → slice_get (records_of plan n) j ≡ Some r → ⊥
    none past = rw (slice_get_past plan.nodes.items n past) (λ is. cc)

pub terminus_within : (plan : Plan) (n : ℕ) (t : PlannedTerminus) → terminus_of plan n ≡ Some t → n < length plan.nodes.items
terminus_within plan n t is = by_past plan n (λ past. none past is)
  where
    none : length plan.nodes.items ≤ n → terminus_of plan n ≡ Some t → ⊥
    none past = rw (slice_get_past plan.nodes.items n past) (λ is. cc)

pub bridge_within : (plan : Plan) (n : ℕ) → IsBridge plan n → n < length plan.nodes.items
bridge_within plan n is = by_past plan n (λ past. none past is)
  where
    none : length plan.nodes.items ≤ n → IsBridge plan n → ⊥
    none past = rw (slice_get_past plan.nodes.items n past) (λ is. cc)

pub pool_within : (plan : Plan) (n e : ℕ) → IsInPoolOf plan n e → n < length plan.nodes.items
unfolding IsInPoolOf
pool_within plan n e has = by_past plan n (λ past. none has.0 past has.1)
  where
    none : (pool : Pool) → length plan.nodes.items ≤ n → pool_of plan n ≡ Some pool → ⊥
    none pool past = rw (slice_get_past plan.nodes.items n past) (λ is. cc)

pub owned_within : (plan : Plan) (n owner : ℕ) → IsOwnedBy plan n owner → n < length plan.nodes.items
owned_within plan n owner is = by_past plan n (λ past. no_owner plan n owner past is)
