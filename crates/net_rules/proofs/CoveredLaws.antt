-- Endpoint IDs that rows cover: those of one row more, and those of all rows.
use Rattle.std.{proofs.Common.{◌≡◌, ◌⊎◌, ◌↔◌, ℕ, ◌+◌, ◌<◌, ◌≤◌, List, length, Some, refl, sym, ◌∙◌, subst, arith, inl, inr}, specs.Prelude.{slice_get}, proofs.lemmas.Bool.{cases_lt}, proofs.lemmas.Option.{same_Some, slice_get_within}}
use Rattle.plan_values.{specs.declared.nodes.Row.{Row}, specs.declared.plan.Plan.{Plan}}
use Rattle.net_tables.specs.Routing.{Covers, HasRow, rows_of}
use Rattle.net_rules.specs.Spans.{IsCovered}

-- one of the first so many rows covers e
abbrev pub IsCoveredBefore : List Row → ℕ → ℕ → Type 0
IsCoveredBefore rows count e = (r : ℕ) × (row : Row) × (r < count) × (slice_get rows r ≡ Some row) × Covers row e

pub one_row_more : (rows : List Row) (count : ℕ) (row : Row) → slice_get rows count ≡ Some row → (e : ℕ)
    → (IsCoveredBefore rows count e ⊎ Covers row e) ↔ IsCoveredBefore rows (count + 1) e
one_row_more rows count row here e = (
  λ h. elim h [
    | inl (r, one, less, is, covers) ↦ (r, one, omega arith, is, covers)
    | inr covers ↦ (count, row, omega arith, here, covers)
  ],
  λ (r, one, less, is, covers). elim (cases_lt r count) [
    | inl before ↦ inl (r, one, before, is, covers)
    | inr after ↦ (
        let last : r ≡ count = omega arith in
        let P : ℕ → Type 0 = λ k. slice_get rows k ≡ Some one in
        let C : Row → Type 0 = λ x. Covers x e in
        inr (subst C (same_Some one row (sym (subst P last is) ∙ here)) covers))
  ],
)

pub all_rows : (rows : List Row) (count e : ℕ) → length rows ≤ count → IsCoveredBefore rows count e ↔ IsCovered rows e
all_rows rows count e all = (
  λ (r, row, less, is, covers). (r, row, is, covers),
  λ (r, row, is, covers). (let within = slice_get_within rows r row is in (r, row, omega arith, is, covers)),
)

pub covered_has : (plan : Plan) (n : ℕ) (rows : List Row) → rows ≡ rows_of plan n → (e : ℕ) → IsCovered rows e ↔ HasRow plan n e
covered_has plan n rows same e = (
  λ (r, row, is, covers). (let P : List Row → Type 0 = λ rs. slice_get rs r ≡ Some row in (row.next, (r, row, subst P same is, covers, refl))),
  λ (m, (r, row, is, covers, next)). (let P : List Row → Type 0 = λ rs. slice_get rs r ≡ Some row in (r, row, subst P (sym same) is, covers)),
)
