-- Ranks that fall along a row, piece by piece, and along the rows of a node in whatever order.
use Rattle.std.{proofs.Common.{◌≡◌, ℕ, ◌+◌, ◌<◌, ◌≤◌, List, Option, Some, None, refl, sym, subst, arith, inl, inr}, specs.Prelude.{All}, specs.List.Sorted.{IsPermutation}, proofs.lemmas.Bool.{cases_lt}, proofs.lemmas.List.Sorted.{All-permutation, IsPermutation-sym}, proofs.lemmas.Option.{slice_get_within, get_or_from_slice_get}}
use Rattle.plan_values.{specs.declared.plan.Plan.{Plan}, specs.declared.nodes.Row.{Row}, specs.declared.certificate.Certificate.{Certificate}}
use Rattle.net_tables.{specs.Routing.{Covers, Holds, OfItem, rows_of}, specs.Ranks.{rank, Falls}}
use Rattle.net_rules.{specs.Rules.{AtRowEid}, specs.Stretches.{IsAlong}}

-- along the row as far as e
abbrev pub FallBelow : Plan → Certificate → ℕ → Row → ℕ → Type 0
FallBelow plan cert n row end = (e : ℕ) → e < end → Covers row e → Falls plan cert n row e

module _ (plan : Plan) (cert : Certificate) (n : ℕ) (row : Row) (at : ℕ) (before : FallBelow plan cert n row at) where
  -- on a piece
  pub falls_on : (own next r q end : ℕ) → IsAlong (rank cert n) at own r → IsAlong (rank cert row.next) at next q → q < r → end ≤ own → end ≤ next → FallBelow plan cert n row end
  unfolding Falls
  falls_on own next r q end along along' less le le' e lt covers = elim (cases_lt e at) [
    | inl early ↦ before e early covers
    | inr from ↦ λ away. (
        let one = along.1 e (omega arith) (omega arith) in
        let other = along'.1 e (omega arith) (omega arith) in
        omega arith)
  ]

  -- and at the endpoint ID that the node holds
  pub falls_held : (end : ℕ) → end ≡ at + 1 → Holds plan n at → FallBelow plan cert n row end
  unfolding Falls
  falls_held end one holds e lt covers = elim (cases_lt e at) [
    | inl early ↦ before e early covers
    | inr from ↦ λ away. (
        let same : at ≡ e = omega arith in
        let P : ℕ → Type 0 = λ k. Holds plan n k in
        absurd (away (subst P same holds)))
  ]

-- it doesn't
pub no_fall : (plan : Plan) (cert : Certificate) (n : ℕ) (row : Row) (at own next r q : ℕ) → IsAlong (rank cert n) at own r → IsAlong (rank cert row.next) at next q → r ≤ q
    → ¬ Holds plan n at → ¬ Falls plan cert n row at
unfolding Falls
no_fall plan cert n row at own next r q along along' most away falls =
    let one = along.1 at (omega arith) along.0 in
    let other = along'.1 at (omega arith) along'.0 in
    let less = falls away in
    omega arith

-- ---- along all rows

abbrev pub FallAlong : Plan → Certificate → ℕ → Row → Type 0
FallAlong plan cert n row = (e : ℕ) → Covers row e → Falls plan cert n row e

pub items_in_order : (plan : Plan) (cert : Certificate) (n : ℕ) (rows ordered : List Row) → IsPermutation rows ordered → All (FallAlong plan cert n) ordered
    → (r : ℕ) → OfItem rows r (FallAlong plan cert n)
items_in_order plan cert n rows ordered same all r row is =
    let each = All-permutation (FallAlong plan cert n) ordered rows (IsPermutation-sym rows ordered same) all in
    let P : Row → Type 0 = λ x. FallAlong plan cert n x in
    subst P (get_or_from_slice_get rows r row row is) (each r row (slice_get_within rows r row is))

pub fall_everywhere : (plan : Plan) (cert : Certificate) (n : ℕ) (ordered : List Row) → IsPermutation (rows_of plan n) ordered → All (FallAlong plan cert n) ordered
    → (entry eid : Option ℕ) → AtRowEid plan n (Falls plan cert n) entry eid
fall_everywhere plan cert n ordered same all None eid = tt
fall_everywhere plan cert n ordered same all (Some r) None = tt
fall_everywhere plan cert n ordered same all (Some r) (Some e) = λ row is covers. items_in_order plan cert n (rows_of plan n) ordered same all r row is e covers
