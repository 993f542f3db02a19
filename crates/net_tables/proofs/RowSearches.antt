-- From searches over rows to what is said of them: a row covers an EID or not, and one of several does or none.
use Rattle.std.{proofs.Common.{◌≡◌, ℕ, zero, suc, ◌+◌, ◌<◌, ◌≤◌, List, [], ◌∷◌, length, get_or, Option, Some, None, refl, sym, ap, ◌∙◌, subst, inl, inr, arith, below_more}, specs.Prelude.{◌⊎◌, slice_get}, proofs.lemmas.Option.{same_Some, slice_get_read, slice_get_within, get_or_from_slice_get}, proofs.lemmas.Bool.{cases_lt}}
use Rattle.pdr_repository.proofs.Deciding.{same_or_not}
use Rattle.plan_values.{specs.declared.plan.Plan.{Plan}, specs.declared.nodes.Row.{Row}}
use Rattle.net_tables.specs.Routing.{HasRow, Covers, rows_of, OfItem}

-- what is said of each item below the end is said of each
pub of_all_items : {A : Type 0} (items : List A) (n : ℕ) (P : A → Type 0) → length items ≤ n → ((k : ℕ) → k < n → OfItem items k P) → (k : ℕ) → OfItem items k P
of_all_items items n P end below k item is =
    let within : k < length items = slice_get_within items k item is in
    below k (omega arith) item is

-- one item more
pub of_one_more : {A : Type 0} (items : List A) (n : ℕ) (item : A) (P : A → Type 0) → n < length items → item ≡ get_or items n item → P item
    → ((k : ℕ) → k < n → OfItem items k P) → (k : ℕ) → k < n + 1 → OfItem items k P
of_one_more {A} items n item P within is p below =
    let Q : ℕ → Type 0 = λ k. OfItem items k P in
    below_more Q n below (λ (other : A) at. subst P (is ∙ get_or_from_slice_get items n other item at) p)

-- a row of the node that covers e
pub row_for : (plan : Plan) (n e r : ℕ) (row : Row) (rows : List Row) → rows ≡ rows_of plan n → r < length rows → row ≡ get_or rows r row → Covers row e → HasRow plan n e
row_for plan n e r row rows same within is covers =
    let P : List Row → Type 0 = λ rs. slice_get rs r ≡ Some row in
    (row.next, (r, row, subst P same (slice_get_read rows (length rows) r row refl within is), covers, refl))

pub no_row_for : (plan : Plan) (n e : ℕ) (rows : List Row) → rows ≡ rows_of plan n → ((k : ℕ) → OfItem rows k (λ row. ¬ Covers row e)) → ¬ HasRow plan n e
no_row_for plan n e rows same none (m, (r, row, at, covers, next)) =
    let P : List Row → Type 0 = λ rs. slice_get rs r ≡ Some row in
    none r row (subst P (sym same) at) covers

pub is_or_not : (o : Option ℕ) (e : ℕ) → (o ≡ Some e) ⊎ ¬ (o ≡ Some e)
is_or_not None e = inr (λ is. cc)
is_or_not (Some d) e = elim (same_or_not d e) [ inl same ↦ inl (ap Some same) | inr not ↦ inr (λ is. not (same_Some d e is)) ]

-- a row covers e or not
covers_or_not : (row : Row) (e : ℕ) → Covers row e ⊎ ¬ Covers row e
covers_or_not row e = elim (cases_lt e row.first.value) [
  | inl below ↦ inr (λ covers. omega (arith, covers.0))
  | inr from ↦ elim (cases_lt e (row.first.value + row.size)) [
    | inl within ↦ elim (cases_lt e 256) [
      | inl byte ↦ inl (from, within, omega arith)
      | inr large ↦ inr (λ covers. omega (arith, covers.2))
    ]
    | inr past ↦ inr (λ covers. omega (arith, covers.1))
  ]
]

-- one of the rows covers e, or none does
pub one_or_none : (rows : List Row) (e : ℕ)
    → ((r : ℕ) × (row : Row) × (slice_get rows r ≡ Some row) × Covers row e) ⊎ ((r : ℕ) (row : Row) → slice_get rows r ≡ Some row → ¬ Covers row e)
one_or_none [] e = inr (λ r row is. cc)
one_or_none (row ∷ rows) e = elim (covers_or_not row e) [
  | inl covers ↦ inl (0, row, refl, covers)
  | inr not ↦ elim (one_or_none rows e) [
    | inl (r, other, is, covers) ↦ inl (suc r, other, is, covers)
    | inr none ↦ inr (λ r. in_neither row rows e not none r)
  ]
]
  where
    in_neither : (row : Row) (rows : List Row) (e : ℕ) → ¬ Covers row e → ((r : ℕ) (row : Row) → slice_get rows r ≡ Some row → ¬ Covers row e)
        → (r : ℕ) (other : Row) → slice_get (row ∷ rows) r ≡ Some other → ¬ Covers other e
    in_neither row rows e not none zero other is = let P : Row → Type 0 = λ x. ¬ Covers x e in subst P (same_Some row other is) not
    in_neither row rows e not none (suc r) other is = none r other is
