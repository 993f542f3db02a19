-- The last row that begins no higher than an endpoint ID is the only one that can cover it.
use Rattle.std.{proofs.Common.{◌≡◌, ℕ, ◌+◌, ◌<◌, ◌≤◌, List, length, get_or, true, false, refl, sym, ap, subst, ◌∙◌, inl, inr, arith}, proofs.Math.Dec.{leb}, proofs.lemmas.Bool.{cases_lt}, proofs.lemmas.Bool.Decides.{nat_tests}, specs.List.{AllWithin}, specs.List.Sorted.{IsNonDecreasingBy}, proofs.lemmas.List.{get_or_default}}
use Rattle.mctp_routing.{specs.declared.row.TableRow.{TableRow}, specs.declared.row.Hop.{Hop}, specs.Rows.{Covers, Routes, IsTable}}

pub begins_by : (row : TableRow) (e : ℕ) → leb row.first.value e ≡ true → row.first.value ≤ e
begins_by row e h = grind (arith, nat_tests)

pub begins_past : (row : TableRow) (e : ℕ) → leb row.first.value e ≡ false → e < row.first.value
begins_past row e h = grind (arith, nat_tests)

-- the rows of a table ascend
pub rows_ascend : (rows : List TableRow) → IsTable rows → IsNonDecreasingBy (λ row. row.first.value) rows
rows_ascend rows table i j d le lt =
    elim (cases_lt i j) [
      | inl below ↦ (let lies = table.ascending i j d below lt in omega arith)
      | inr same ↦ (let e : i ≡ j = omega arith in rw e (omega arith))
    ]

-- a row that stands in the list routes what it covers
pub row_routes : (rows : List TableRow) (e i : ℕ) (row : TableRow) → i < length rows → row ≡ get_or rows i row → Covers row e → Routes rows e row.hop
row_routes rows e i row lt is covered = (i, row, lt, sym is, (covered, refl))

-- a row among those that begin no higher than e
pub begins_low : (rows : List TableRow) (e i begun : ℕ) (row : TableRow) → AllWithin (λ row. row.first.value ≤ e) rows 0 begun → i < begun
    → row ≡ get_or rows i row → row.first.value ≤ e
begins_low rows e i begun row low lt is = rw (← is) at (low i row (omega arith) lt)

module _ (rows : List TableRow) (e begun : ℕ) (past : AllWithin (λ row. e < row.first.value) rows begun (length rows)) where
  -- a row from there on begins past e
  begins_after : (k : ℕ) (row : TableRow) → begun ≤ k → k < length rows → get_or rows k row ≡ row → e < row.first.value
  begins_after k row from lt is = rw is at (past k row from lt)

  -- all rows begin past e
  pub no_row : begun ≡ 0 → (hop : Hop) → ¬ Routes rows e hop
  no_row none hop (k, row, lt, is, routed) =
      let after = begins_after k row (omega arith) lt is in
      absurd (omega arith)

  -- the last one that doesn't has no part in e
  pub not_the_last : (last : ℕ) (row : TableRow) → begun ≡ last + 1 → last < length rows → row ≡ get_or rows last row → IsTable rows
      → row.first.value ≤ e → ¬ Covers row e → (hop : Hop) → ¬ Routes rows e hop
  not_the_last last row is_next within is_last table low not_covered hop (k, other, lt, is, routed) =
      elim (cases_lt k last) [
        | inl below ↦
            (let lies = rw (get_or_default rows k row other lt, is, ← is_last) at (table.ascending k last row below within) in
            absurd (omega arith))
        | inr from ↦ elim (cases_lt last k) [
          | inl after ↦ (let begins = begins_after k other (omega arith) lt is in absurd (omega arith))
          | inr upto ↦
              (let same : k ≡ last = omega arith in
              let one : other ≡ row = sym is ∙ get_or_default rows k other row lt ∙ ap (λ n. get_or rows n row) same ∙ sym is_last in
              let C : TableRow → Type 0 = λ r. Covers r e in
              not_covered (subst C one routed.0))
        ]
      ]
