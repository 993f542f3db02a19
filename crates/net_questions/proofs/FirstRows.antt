-- The first row for an EID, and where it leads.
use Rattle.std.{proofs.Common.{◌≡◌, ℕ, ◌<◌, List, length, get_or, Some, refl, sym, ap, ◌∙◌, subst, inl, inr}, specs.Prelude.{slice_get}, proofs.lemmas.Bool.{cases_order}, proofs.lemmas.Option.{slice_get_read, same_Some}}
use Rattle.plan_values.{specs.declared.plan.Plan.{Plan}, specs.declared.nodes.Row.{Row}}
use Rattle.net_tables.specs.Routing.{Covers, MovesTo, OfItem, rows_of}
use Rattle.net_rules.{specs.Moves.{IsEnd}, specs.Promises.{WayEnds}, proofs.EidMoves.{no_move}}
use Rattle.net_questions.{specs.Lint.{IsFirstRowFor, IsForwardedTo}, proofs.Within.{row_within}}

pub first_row : (plan : Plan) (n e r : ℕ) (row : Row) (rows : List Row) → rows ≡ rows_of plan n → r < length rows → row ≡ get_or rows r row → Covers row e
    → ((k : ℕ) → k < r → OfItem rows k (λ other. ¬ Covers other e)) → IsFirstRowFor plan n e row
first_row plan n e r row rows same within is covers none =
    let P : List Row → Type 0 = λ rs. (slice_get rs r ≡ Some row) × ((k : ℕ) → k < r → OfItem rs k (λ other. ¬ Covers other e)) in
    let there = subst P same (slice_get_read rows (length rows) r row refl within is, none) in
    (r, there.0, covers, there.1)

module _ (plan : Plan) (e : ℕ) where
  one_first_row : (n : ℕ) (row other : Row) → IsFirstRowFor plan n e row → IsFirstRowFor plan n e other → row ≡ other
  one_first_row n row other one two = elim (cases_order one.0 two.0) [
    | inl same ↦ same_Some row other (sym one.1 ∙ (ap (λ k. slice_get (rows_of plan n) k) same ∙ two.1))
    | inr order ↦ elim order [
      | inl before ↦ absurd (two.3 one.0 before row one.1 one.2)
      | inr after ↦ absurd (one.3 two.0 after other two.1 two.2)
    ]
  ]

  pub goes_only : (n p q : ℕ) → IsForwardedTo plan e n p → IsForwardedTo plan e n q → p ≡ q
  goes_only n p q one two = sym one.3 ∙ (ap (λ (row : Row). row.next) (one_first_row n one.1 two.1 one.2 two.2) ∙ two.3)

  pub goes_within : (n p : ℕ) → IsForwardedTo plan e n p → n < length plan.nodes.items
  goes_within n p on = row_within plan n on.2.0 on.1 on.2.1

  -- what goes on moves along a row
  pub goes_moves : (n p : ℕ) → IsForwardedTo plan e n p → MovesTo plan e n p
  goes_moves n p on = (on.0, (on.2.0, on.1, on.2.1, on.2.2, on.3))

  pub goes_nowhere : (n : ℕ) → WayEnds plan e n → IsEnd (IsForwardedTo plan e) n
  goes_nowhere n ends p on = no_move plan e n ends p (goes_moves n p on)
