-- Where the first row for an EID leads, by rows and by table.
use Rattle.std.{proofs.Common.{◌≡◌, ℕ, suc, ◌+◌, ◌<◌, List, [], ◌∷◌, ◌++◌, length, get_or, take, Option, Some, None, refl, sym, ◌∙◌, ap, subst, arith, inl, inr, Vec, MatchOption}, specs.Prelude.{slice_get, option_and_then}, proofs.lemmas.Bool.{cases_order}, proofs.lemmas.List.{length_push, length-take, get_or-take}, proofs.lemmas.Option.{same_Some, slice_get_within, option_and_then_some, get_or_from_slice_get}}
use Rattle.plan_values.{specs.declared.plan.Plan.{Plan}, specs.declared.nodes.Row.{Row}}
use Rattle.net_tables.{specs.Routing.{rows_of, Covers, Holds, MovesTo, OfItem}, specs.Rows.{RowsAreApart, AreApart, IsApartFromEarlier}, proofs.Elements.{element, in_push}}
use Rattle.net_rules.{specs.Moves.{IsEnd, Leads}, specs.Circles.{MovesBy, IsOnCircle}, proofs.EidMoves.{moves_within}, proofs.SameMoves.{Leads-same}}
use Rattle.net_faults.specs.{Circles.{IsCircle}, FirstRows.{IsFirstRow, GoesTo, AreGoings, AreTables}}

-- the first row for an EID is one
pub one_first_row : (rows : List Row) (e : ℕ) (row other : Row) → IsFirstRow rows e row → IsFirstRow rows e other → row ≡ other
one_first_row rows e row other (r, is, covers, first) (s, is', covers', first') = elim (cases_order r s) [
  | inl same ↦ same_Some row other (sym is ∙ (ap (λ k. slice_get rows k) same ∙ is'))
  | inr (inl less) ↦ absurd (first' r less row is covers)
  | inr (inr more) ↦ absurd (first s more other is' covers')
]

pub goes_only : (plan : Plan) (e n p q : ℕ) → GoesTo plan e n p → GoesTo plan e n q → p ≡ q
goes_only plan e n p q (away, row, first, next) (away', other, first', next') =
    sym next ∙ (ap (λ (x : Row). x.next) (one_first_row (rows_of plan n) e row other first first') ∙ next')

-- it is one of the rows
pub goes_moves : (plan : Plan) (e n m : ℕ) → GoesTo plan e n m → MovesTo plan e n m
goes_moves plan e n m (away, row, (r, is, covers, _), next) = (away, (r, row, is, covers, next))

pub goes_within : (plan : Plan) (e n m : ℕ) → GoesTo plan e n m → n < length plan.nodes.items
goes_within plan e n m goes = moves_within plan e n m (goes_moves plan e n m goes)

pub goes_in_byte : (plan : Plan) (e n m : ℕ) → GoesTo plan e n m → e < 256
goes_in_byte plan e n m (away, row, (r, is, covers, _), next) = omega (arith, covers.2)

-- ---- tables

pub table_to : (plan : Plan) (e : ℕ) (table : List (Option ℕ)) → AreGoings plan e (length plan.nodes.items) table → (n m : ℕ) → MovesBy table n m → GoesTo plan e n m
table_to plan e table are n m move = option_and_then_some (λ next. next) (slice_get table n) m move (λ x is same. are.goings n (Some m) (is ∙ ap Some same))

pub table_from : (plan : Plan) (e : ℕ) (table : List (Option ℕ)) → AreGoings plan e (length plan.nodes.items) table → (n m : ℕ) → GoesTo plan e n m → MovesBy table n m
table_from plan e table are n m goes =
    let there = element table n (omega (arith, are.long, goes_within plan e n m goes)) in
    by there.0 there.1
  where
    by : (next : Option ℕ) → slice_get table n ≡ Some next → MovesBy table n m
    by None is = absurd (are.goings n None is m goes)
    by (Some p) is =
        let same : p ≡ m = goes_only plan e n p m (are.goings n (Some p) is) goes in
        ap (λ (o : Option (Option ℕ)). option_and_then (λ next. next) o) is ∙ ap Some same

-- one more node
pub going_pushed : (plan : Plan) (e count : ℕ) (table : List (Option ℕ)) (next : Option ℕ) → AreGoings plan e count table → MatchOption next (IsEnd (GoesTo plan e) count) (GoesTo plan e count)
    → AreGoings plan e (count + 1) (table ++ next ∷ [])
going_pushed plan e count table next are goes = record {
  long = omega (arith, length_push table next, are.long);
  goings = λ n other is. elim (in_push table next n other is) [
    | inl before ↦ are.goings n other before
    | inr (last, same) ↦ (
        let here : count ≡ n = omega (arith, last, are.long) in
        subst (λ k. MatchOption other (IsEnd (GoesTo plan e) k) (GoesTo plan e k)) here (subst (λ o. MatchOption o (IsEnd (GoesTo plan e) count) (GoesTo plan e count)) same goes))
  ];
}

pub no_goings : (plan : Plan) (e : ℕ) → AreGoings plan e 0 []
no_goings plan e = record { long = refl; goings = λ n next is. absurd (cc is) }

-- the tables as far as they are made
abbrev pub AreTablesBelow : {Z : Type 0} → Plan → ℕ → List (Vec (Option ℕ) Z) → Type 0
AreTablesBelow {Z} plan end tables = (length tables ≡ end) × ((e : ℕ) (table : Vec (Option ℕ) Z) → slice_get tables e ≡ Some table → AreGoings plan e (length plan.nodes.items) table.items)

pub table_pushed : {Z : Type 0} (plan : Plan) (end : ℕ) (tables : List (Vec (Option ℕ) Z)) (table : Vec (Option ℕ) Z) → AreTablesBelow plan end tables → AreGoings plan end (length plan.nodes.items) table.items
    → AreTablesBelow plan (end + 1) (tables ++ table ∷ [])
table_pushed {Z} plan end tables table are goings = (
  omega (arith, length_push tables table, are.0),
  λ e other is. elim (in_push tables table e other is) [
    | inl before ↦ are.1 e other before
    | inr (last, same) ↦ (
        let here : end ≡ e = omega (arith, last, are.0) in
        subst (λ k. AreGoings plan k (length plan.nodes.items) other.items) here (subst (λ (t : Vec (Option ℕ) Z). AreGoings plan end (length plan.nodes.items) t.items) same goings))
  ],
)

-- a table that is there
pub table_at : {Z : Type 0} (plan : Plan) (tables : List (Vec (Option ℕ) Z)) → AreTables plan tables → (e : ℕ) → e < 256
    → (table : Vec (Option ℕ) Z) × (slice_get tables e ≡ Some table) × AreGoings plan e (length plan.nodes.items) table.items
table_at plan tables are e byte =
    let there = element tables e (omega (arith, are.0, byte)) in
    (there.0, there.1, are.1 e there.0 there.1)

-- ---- rows that lie apart

-- of rows that lie apart one alone covers an EID, and so the first does
pub moves_goes : (plan : Plan) (e n m : ℕ) → RowsAreApart plan → MovesTo plan e n m → GoesTo plan e n m
unfolding AreApart IsApartFromEarlier
moves_goes plan e n m apart (away, (r, row, is, covers, next)) = (away, row, (r, is, covers, none), next)
  where
    none : (k : ℕ) → k < r → OfItem (rows_of plan n) k (λ other. ¬ Covers other e)
    none k less other there also =
        let rows = rows_of plan n in
        let within : k < length (take r rows) = omega (arith, slice_get_within rows k other there, length-take r rows, less) in
        let lie = subst (AreApart row) (get_or-take r rows k other less ∙ get_or_from_slice_get rows k other other there) (apart n r row is k other within) in
        lie e covers also

pub circle_of_moves : (plan : Plan) (e n : ℕ) → RowsAreApart plan → IsOnCircle (MovesTo plan e) n → IsOnCircle (GoesTo plan e) n
circle_of_moves plan e n apart circle = (circle.0, Leads-same (MovesTo plan e) (GoesTo plan e) (λ x y move. moves_goes plan e x y apart move) n (suc circle.0) n circle.1)

pub circle_of_goings : (plan : Plan) (e n : ℕ) → IsOnCircle (GoesTo plan e) n → IsOnCircle (MovesTo plan e) n
circle_of_goings plan e n circle = (circle.0, Leads-same (GoesTo plan e) (MovesTo plan e) (goes_moves plan e) n (suc circle.0) n circle.1)

-- ---- one node's next

pub held_goes_nowhere : (plan : Plan) (e n : ℕ) → Holds plan n e → IsEnd (GoesTo plan e) n
held_goes_nowhere plan e n held m goes = goes.0 held

pub goes_by : (plan : Plan) (e n : ℕ) (rows : List Row) (r : ℕ) (row : Row) → rows ≡ rows_of plan n → ¬ Holds plan n e → slice_get rows r ≡ Some row → Covers row e
    → ((k : ℕ) → k < r → OfItem rows k (λ other. ¬ Covers other e)) → GoesTo plan e n row.next
goes_by plan e n rows r row same away is covers none =
    subst (λ (list : List Row). IsFirst list) same (away, row, (r, is, covers, none), refl)
  where
    IsFirst : List Row → Type 0
    IsFirst list = ¬ Holds plan n e × (other : Row) × IsFirstRow list e other × (other.next ≡ row.next)

pub goes_nowhere : (plan : Plan) (e n : ℕ) (rows : List Row) → rows ≡ rows_of plan n → ((k : ℕ) → OfItem rows k (λ other. ¬ Covers other e)) → IsEnd (GoesTo plan e) n
goes_nowhere plan e n rows same none m (away, row, (r, is, covers, first), next) =
    let P : List Row → Type 0 = λ list. slice_get list r ≡ Some row in
    none r row (subst P (sym same) is) covers
