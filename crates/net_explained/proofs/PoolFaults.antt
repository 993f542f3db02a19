-- What is lawful of a node's pool, and what is not.
use Rattle.std.{proofs.Common.{◌≡◌, ℕ, ◌+◌, ◌<◌, ◌≤◌, Option, Some, None, refl, sym, ◌∙◌, subst, arith, inl, inr}, proofs.lemmas.Bool.{cases_lt}, proofs.lemmas.Option.{same_Some}}
use Rattle.plan_values.{specs.declared.plan.Plan.{Plan}, specs.declared.nodes.Pool.{Pool}}
use Rattle.net_tables.{specs.Routing.{IsBridge}, specs.Ownership.{owner_of, IsOwnedBy, pool_of, IsInPool, IsInPoolOf}, proofs.PoolsOf.{in_pool_of, in_no_pool}}
use Rattle.net_rules.specs.Pools.{IsPoolInRange, LiesInOwnersPool, LiesApartFromEarlierPools, IsLawfulPool, HasLawfulPool}

-- whether an endpoint ID lies in a pool is decided
in_pool : (pool : Pool) (e : ℕ) → ¬ ¬ IsInPool pool e → IsInPool pool e
in_pool pool e not = elim (cases_lt e pool.first.value) [
  | inl before ↦ absurd (not (λ inside. omega (arith, before, inside.0)))
  | inr from ↦ elim (cases_lt e (pool.first.value + pool.size)) [
    | inl within ↦ (from, within)
    | inr past ↦ absurd (not (λ inside. omega (arith, past, inside.1)))
  ]
]

pub lies_in : (plan : Plan) (n e : ℕ) → ¬ ¬ IsInPoolOf plan n e → IsInPoolOf plan n e
lies_in plan n e not = by (pool_of plan n) refl
  where
    by : (o : Option Pool) → o ≡ pool_of plan n → IsInPoolOf plan n e
    by None is = absurd (not (in_no_pool plan n e is))
    by (Some pool) is = (in_pool_of plan n e pool is).0 (in_pool pool e (λ out. not (λ inside. out ((in_pool_of plan n e pool is).1 inside))))

module _ (plan : Plan) (n : ℕ) (pool : Pool) (is : pool_of plan n ≡ Some pool) where
  pub bridge_first : ¬ IsBridge plan n → ¬ HasLawfulPool plan n
  unfolding HasLawfulPool IsLawfulPool
  bridge_first not lawful = not (lawful pool is).0

  pub range_next : ¬ IsPoolInRange pool → ¬ HasLawfulPool plan n
  unfolding HasLawfulPool IsLawfulPool
  range_next not lawful = not (lawful pool is).1

  pub beyond_owners : (owner e : ℕ) → IsOwnedBy plan n owner → IsInPool pool e → ¬ IsInPoolOf plan owner e → ¬ HasLawfulPool plan n
  unfolding HasLawfulPool IsLawfulPool LiesInOwnersPool
  beyond_owners owner e owned inside not lawful = not ((lawful pool is).2 owner owned e inside)

  pub meets_earlier : (m e : ℕ) → m < n → owner_of plan m ≡ owner_of plan n → IsInPool pool e → IsInPoolOf plan m e → ¬ HasLawfulPool plan n
  unfolding HasLawfulPool IsLawfulPool LiesApartFromEarlierPools
  meets_earlier m e less same inside there lawful = (lawful pool is).3 m less same e inside there

  pub all_lawful : IsBridge plan n → IsPoolInRange pool → LiesInOwnersPool plan n pool
      → ((m e : ℕ) → m < n → ¬ ((owner_of plan m ≡ owner_of plan n) × IsInPool pool e × IsInPoolOf plan m e)) → HasLawfulPool plan n
  unfolding HasLawfulPool IsLawfulPool LiesApartFromEarlierPools
  all_lawful bridge range inside apart other has =
      let one : pool ≡ other = same_Some pool other (sym is ∙ has) in
      let P : Pool → Type 0 = λ p. IsLawfulPool plan n p in
      subst P one (bridge, range, inside, λ m less same e in_own in_other. apart m e less (same, in_own, in_other))

  pub end_within : IsPoolInRange pool → pool.first.value + pool.size ≤ 256
  unfolding IsPoolInRange
  end_within range = omega (arith, range.2)
