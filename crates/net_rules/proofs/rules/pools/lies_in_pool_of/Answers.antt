use Rattle.std.{proofs.Common.{◌≡◌, ℕ, arith, inl, inr}, proofs.lemmas.Bool.Decides.{eqb_tells, Decides-eqb}}
use Rattle.net_tables.proofs.PoolsOf.{in_pool_of, in_no_pool}
use Rattle.net_rules.proofs.rules.pools.lies_in_pool_of.Goals as goal

pub returns-in-Some : goal.returns-in-Some
returns-in-Some c =
    let decides = c.lies_within.ensures in
    let inside = λ (e : ℕ). in_pool_of c.args.plan.now c.args.node e c.in-Some.around c.in-Some.ensures in
    (λ h e there. (inside e).0 (decides.0 h e there), λ all. decides.1 (λ e there. (inside e).1 (all e there)))

pub returns-in-None : goal.returns-in-None
returns-in-None c =
    let pool = c.args.pool in (
      λ h e there. (let empty : pool.size ≡ 0 = (Decides-eqb pool.size 0).0 h in absurd (omega (arith, there.0, there.1))),
      λ all. elim (eqb_tells pool.size 0) [
        | inl (empty, _) ↦ empty
        | inr (_, some) ↦ absurd (in_no_pool c.args.plan.now c.args.node pool.first.value c.in-None.ensures (all pool.first.value (omega arith, omega arith)))
      ],
    )
