-- What lies in the pool of a node, where its pool is known.
use Rattle.std.{proofs.Common.{◌≡◌, ℕ, Some, None, sym, ◌∙◌, subst}, specs.Prelude.{◌↔◌}, proofs.lemmas.Option.{same_Some, none-some}}
use Rattle.plan_values.{specs.declared.plan.Plan.{Plan}, specs.declared.nodes.Pool.{Pool}}
use Rattle.net_tables.specs.Ownership.{pool_of, IsInPool, IsInPoolOf}

pub in_pool_of : (plan : Plan) (n e : ℕ) (pool : Pool) → Some pool ≡ pool_of plan n → IsInPool pool e ↔ IsInPoolOf plan n e
unfolding IsInPoolOf
in_pool_of plan n e pool is = (
  λ inside. (pool, sym is, inside),
  λ (other, has, inside). (let P : Pool → Type 0 = λ p. IsInPool p e in subst P (same_Some other pool (sym has ∙ sym is)) inside),
)

pub in_no_pool : (plan : Plan) (n e : ℕ) → None ≡ pool_of plan n → ¬ IsInPoolOf plan n e
unfolding IsInPoolOf
in_no_pool plan n e is = λ (pool, has, inside). none-some pool (is ∙ has)
