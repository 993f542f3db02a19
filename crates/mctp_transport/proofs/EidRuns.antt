-- Runs of endpoint IDs that lie apart: it is enough to look at the endpoint IDs up to 255.
use Rattle.std.{proofs.Common.{ℕ, ◌+◌, ◌<◌, ◌≤◌, arith, inl, inr}, proofs.lemmas.Bool.{cases_lt}}

-- two runs that share no number up to 255, and begin there, share none
pub apart_everywhere : (first size other count : ℕ) → first ≤ 255 → other ≤ 255
    → ((e : ℕ) → (first ≤ e) × (e < first + size) × (e ≤ 255) → ¬ ((other ≤ e) × (e < other + count) × (e ≤ 255)))
    → (e : ℕ) → (first ≤ e) × (e < first + size) → ¬ ((other ≤ e) × (e < other + count))
apart_everywhere first size other count low other_low apart e (from, before) (other_from, other_before) = elim (cases_lt first other) [
  | inl less ↦ apart other (omega arith, omega arith, other_low) (omega arith, omega arith, other_low)
  | inr not_less ↦ apart first (omega arith, omega arith, low) (omega arith, omega arith, low)
]
