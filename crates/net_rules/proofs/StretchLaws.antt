-- Stretches of endpoint IDs, and the ranks of a certificate by its ranges.
use Rattle.std.{proofs.Common.{◌≡◌, ◌==◌, ℕ, ◌+◌, ◌<◌, ◌≤◌, List, [], Some, refl, ◌∙◌, ap, subst, arith, Option, None}, specs.Prelude.{find, option_map, unwrap_or}}
use Rattle.plan_values.{specs.declared.certificate.Certificate.{Certificate}, specs.declared.certificate.RankRange.{RankRange}, specs.declared.certificate.NodeRanks.{NodeRanks}}
use Rattle.net_tables.specs.Ranks.{rank_in, rank, ranges_of}
use Rattle.net_rules.specs.Stretches.{IsStretch}

-- a stretch that ends earlier
pub shorter : (P : ℕ → Type 0) (at end less : ℕ) → at < less → less ≤ end → IsStretch P at end → IsStretch P at less
shorter P at end less some le h = (some, λ e from before. h.1 e from (omega arith))

-- a stretch of one
pub one_alike : (P : ℕ → Type 0) (at end : ℕ) → end ≡ at + 1 → IsStretch P at end
one_alike P at end one = (
  omega arith,
  λ e from before.
      let same : e ≡ at = omega arith in
      let to : ℕ → Type 0 = λ k. P e → P k in
      let back : ℕ → Type 0 = λ k. P k → P e in
      (subst to same (λ p. p), subst back same (λ p. p)),
)

-- from the ranges to the certificate
pub rank_of_ranges : (cert : Certificate) (n e : ℕ) (ranges : List RankRange) → ranges ≡ ranges_of cert n → rank_in ranges e ≡ rank cert n e
rank_of_ranges cert n e ranges same = ap (λ xs. rank_in xs e) same ∙ by (find (λ (given : NodeRanks). given.node == n) cert.ranks.items)
  where
    by : (o : Option NodeRanks) → rank_in (unwrap_or (option_map (λ (given : NodeRanks). given.ranges.items) o) []) e ≡ unwrap_or (option_map (λ (given : NodeRanks). rank_in given.ranges.items e) o) 0
    by None = refl
    by (Some given) = refl
