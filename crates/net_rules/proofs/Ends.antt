-- Following rows ends within the rank.
use Rattle.std.{proofs.Common.{ℕ, zero, suc, ◌+◌, ◌<◌, ◌≤◌, Some, refl, subst, inl, inr, arith}, specs.Prelude.{◌⊎◌}}
use Rattle.net_rules.{specs.declared.rule.Rule.TheVariants.{C10}, specs.Rules.{RuleHolds, Accepts}, specs.Moves.{Leads}, specs.Promises.{WayEnds, EndsWithinRank}}
use Rattle.plan_values.{specs.declared.plan.Plan.{Plan}, specs.declared.certificate.Certificate.{Certificate}}
use Rattle.net_tables.{specs.Routing.{MovesTo, rows_of, eid_of}, specs.Ranks.{rank, Falls}, proofs.RowSearches.{is_or_not, one_or_none}}

-- along a row the rank falls
pub falls_by_rule : (plan : Plan) (cert : Certificate) → RuleHolds plan cert C10 → (e n m : ℕ) → MovesTo plan e n m → rank cert m e < rank cert n e
unfolding Falls
falls_by_rule plan cert holds e n m (away, (r, row, at, covers, next)) =
    let falls = (holds n (Some r) (Some e)).1 row at covers away in
    let P : ℕ → Type 0 = λ k. rank cert k e < rank cert n e in subst P next falls

pub move_falls : (plan : Plan) (cert : Certificate) (e n m : ℕ) → Accepts plan cert → MovesTo plan e n m → rank cert m e < rank cert n e
move_falls plan cert e n m accepted move = falls_by_rule plan cert (accepted C10) e n m move

within : (plan : Plan) (cert : Certificate) → Accepts plan cert → (e n moves m : ℕ) → Leads (MovesTo plan e) n moves m → moves + rank cert m e ≤ rank cert n e
within plan cert accepted e n zero m same = let P : ℕ → Type 0 = λ k. zero + rank cert k e ≤ rank cert n e in subst P same (omega arith)
within plan cert accepted e n (suc moves) m (next, move, rest) =
    let falls = move_falls plan cert e n next accepted move in
    let later = within plan cert accepted e next moves m rest in
    omega (arith, falls, later)

-- what is for e moves on from n, or its way ends there
pub moves_or_ends : (plan : Plan) (e n : ℕ) → ((next : ℕ) × MovesTo plan e n next) ⊎ WayEnds plan e n
moves_or_ends plan e n = elim (is_or_not (eid_of plan n) e) [
  | inl holds ↦ inr (inl holds)
  | inr away ↦ elim (one_or_none (rows_of plan n) e) [
    | inl (r, row, at, covers) ↦ inl (row.next, (away, (r, row, at, covers, refl)))
    | inr none ↦ inr (inr (λ (m, (r, row, at, covers, next)). none r row at covers))
  ]
]

-- a way that ends, of so many moves at most
abbrev pub Reaches : Plan → ℕ → ℕ → ℕ → Type 0
Reaches plan e n most = (moves m : ℕ) × Leads (MovesTo plan e) n moves m × (moves ≤ most) × WayEnds plan e m

one_more : (plan : Plan) (e n next most : ℕ) → MovesTo plan e n next → Reaches plan e next most → Reaches plan e n (suc most)
one_more plan e n next most move (moves, m, leads, few, ends) = (suc moves, m, (next, move, leads), omega arith, ends)

reaches : (plan : Plan) (cert : Certificate) → Accepts plan cert → (e most n : ℕ) → rank cert n e ≤ most → Reaches plan e n most
reaches plan cert accepted e zero n low = elim (moves_or_ends plan e n) [
  | inl (next, move) ↦ absurd (omega (arith, move_falls plan cert e n next accepted move))
  | inr ends ↦ (0, n, refl, omega arith, ends)
]
reaches plan cert accepted e (suc most) n low = elim (moves_or_ends plan e n) [
  | inl (next, move) ↦ one_more plan e n next most move (reaches plan cert accepted e most next (omega (arith, move_falls plan cert e n next accepted move)))
  | inr ends ↦ (0, n, refl, omega arith, ends)
]

pub ends_within_rank : (plan : Plan) (cert : Certificate) → Accepts plan cert → EndsWithinRank plan cert
ends_within_rank plan cert accepted = record {
  within = within plan cert accepted;
  stops = λ e m none. elim (moves_or_ends plan e m) [ inl (next, move) ↦ absurd (none next move) | inr ends ↦ ends ];
  ends = λ e n. reaches plan cert accepted e (rank cert n e) n (omega arith);
}
