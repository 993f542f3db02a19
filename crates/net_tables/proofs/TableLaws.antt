-- A routing table of a node's rows sends what is for an EID where the rows send it, and that is one next node.
use Rattle.std.{proofs.Common.{◌≡◌, ℕ, ◌+◌, ◌<◌, List, [], ◌∷◌, ◌++◌, Some, None, length, map, take, get_or, refl, sym, ap, ◌∙◌, subst, arith, inl, inr}, specs.Prelude.{slice_get}, proofs.lemmas.Bool.{cases_order}, proofs.lemmas.List.{get_or-map, get_or-take, length-take, length-map, length_push}, proofs.lemmas.Option.{slice_get_within, slice_get-get_or, get_or_from_slice_get, same_Some}}
use Rattle.mctp_routing.{specs.declared.row.Hop.{Hop}, specs.declared.table_fault.TableFault.{TableFault}, specs.declared.table_fault.TableFault.TheVariants.{Empty, Outside, Overlap, Memory}, specs.RowFaults.{IsFirstFault}}
use Rattle.plan_values.{specs.declared.plan.Plan.{Plan}, specs.declared.nodes.Row.{Row}}
use Rattle.net_tables.{specs.Rows.{AreApart, IsInRange, IsApartFromEarlier, RowsAreApart}, specs.Routing.{NamesFor, Covers, rows_of}, specs.Tables.{AreRows, AreTabled, AreTables, table_row, SendsAs}, proofs.Elements.{element, in_push}}
use Rattle.mctp_routing.specs.declared.row.TableRow as bridge
use Rattle.mctp_routing.specs.Rows as rule

-- ---- the rows are lawful

-- the row of the table at an index is that of the plan there
row_at : (rows : List Row) (k : ℕ) (d : bridge.TableRow) (row : Row) → slice_get rows k ≡ Some row → get_or (map table_row rows) k d ≡ table_row row
row_at rows k d row is = get_or-map table_row rows k row d (slice_get_within rows k row is) ∙ ap table_row (get_or_from_slice_get rows k row row is)

lawful : (row : Row) → IsInRange row → rule.IsLawful (table_row row)
unfolding IsInRange
lawful row within = (λ empty. omega (arith, empty, within.0), λ outside. elim outside [ inl low ↦ omega (arith, low, within.1) | inr high ↦ omega (arith, high, within.2) ])

apart_both : (row other : Row) → AreApart other row → rule.AreApart (table_row row) (table_row other)
unfolding AreApart rule.AreApart
apart_both row other apart e here there = apart e there here

-- each row of the list lies apart from the earlier ones
earlier_apart : (rows : List Row) (i j : ℕ) (row other : Row) → i < j → slice_get rows i ≡ Some row → IsApartFromEarlier rows j other → AreApart other row
unfolding IsApartFromEarlier
earlier_apart rows i j row other before is apart =
    let within : i < length (take j rows) = omega (arith, slice_get_within rows i row is, length-take j rows) in
    subst (AreApart other) (get_or-take j rows i row before ∙ get_or_from_slice_get rows i row row is) (apart i row within)

pub lawful_rows : (rows : List Row) → AreRows rows → rule.AreLawful (map table_row rows)
lawful_rows rows are = record {
  each = λ k d lt.
      let row = element rows k (omega (arith, lt, length-map rows table_row)) in
      subst rule.IsLawful (sym (row_at rows k d row.0 row.1)) (lawful row.0 (are k row.0 row.1).1);
  apart = λ i j d less lt.
      let one = element rows i (omega (arith, less, lt, length-map rows table_row)) in
      let other = element rows j (omega (arith, lt, length-map rows table_row)) in
      let apart = apart_both one.0 other.0 (earlier_apart rows i j one.0 other.0 less one.1 (are j other.0 other.1).0) in
      subst (λ x. rule.AreApart x (get_or (map table_row rows) j d)) (sym (row_at rows i d one.0 one.1)) (subst (rule.AreApart (table_row one.0)) (sym (row_at rows j d other.0 other.1)) apart);
}

-- ---- so only memory can be wanting

first_in_take : (rows : List bridge.TableRow) (n i : ℕ) (row : bridge.TableRow) → slice_get (take n rows) i ≡ Some row → (i < n) × (slice_get rows i ≡ Some row)
first_in_take rows n i row is =
    let lt = slice_get_within (take n rows) i row is in
    let before : i < n = omega (arith, lt, length-take n rows) in
    let within : i < length rows = omega (arith, lt, length-take n rows) in
    (before, slice_get-get_or rows i row within ∙ ap Some (sym (get_or-take n rows i row before) ∙ get_or_from_slice_get (take n rows) i row row is))

pub no_fault : (rows : List bridge.TableRow) (fault : TableFault) → rule.AreLawful rows → IsFirstFault rows fault → fault ≡ Memory
unfolding rule.AreApart
no_fault rows (Empty index) rows_lawful (before, (row, is, empty)) =
    let P = rule.IsLawful in
    absurd ((subst P (get_or_from_slice_get rows index row row is) (rows_lawful.each index row (slice_get_within rows index row is))).0 empty)
no_fault rows (Outside index) rows_lawful (before, (row, is, (some, outside))) =
    let P = rule.IsLawful in
    absurd ((subst P (get_or_from_slice_get rows index row row is) (rows_lawful.each index row (slice_get_within rows index row is))).1 outside)
no_fault rows (Overlap index earlier) rows_lawful (before, (row, is, (some, inside, ((other, there, shares), first)))) =
    let at = first_in_take rows index earlier other there in
    let apart = rows_lawful.apart earlier index row at.0 (slice_get_within rows index row is) in
    let one = get_or_from_slice_get rows earlier other row at.1 in
    let two = get_or_from_slice_get rows index row row is in
    absurd (shares (λ e here there. subst (λ x. rule.AreApart x row) one (subst (rule.AreApart (get_or rows earlier row)) two apart) e there here))
no_fault rows Memory rows_lawful fault = refl

-- ---- and the table sends what the rows send

pub routed : (rows : List Row) (e m : ℕ) → NamesFor rows e m → (hop : Hop) × rule.Routes (map table_row rows) e hop
routed rows e m (r, row, is, covers, next) =
    ((table_row row).hop, (r, table_row row, omega (arith, length-map rows table_row, slice_get_within rows r row is), row_at rows r (table_row row) row is, (covers, refl)))

pub named : (rows : List Row) (e : ℕ) (hop : Hop) → rule.Routes (map table_row rows) e hop → NamesFor rows e hop.next
named rows e hop (k, x, lt, at, (covers, goes)) =
    let row = element rows k (omega (arith, lt, length-map rows table_row)) in
    let same : table_row row.0 ≡ x = sym (row_at rows k x row.0 row.1) ∙ at in
    let P : bridge.TableRow → Type 0 = λ r. rule.Covers r e in
    (k, row.0, row.1, subst P (sym same) covers, ap (λ (r : bridge.TableRow). r.hop.next) same ∙ ap (λ (h : Hop). h.next) goes)

pub sends_as : (rows : List Row) (copied table : List bridge.TableRow) → copied ≡ map table_row rows → rule.HasSameRoutes copied table → SendsAs rows table
sends_as rows copied table is same e None none = λ m names.
    let found = routed rows e m names in
    none found.0 ((same e found.0).0 (subst (λ rs. rule.Routes rs e found.0) (sym is) found.1))
sends_as rows copied table is same e (Some hop) routes = named rows e hop (subst (λ rs. rule.Routes rs e hop) is ((same e hop).1 routes))

-- ---- the tables of all nodes

pub none_tabled : (plan : Plan) → AreTabled plan 0 []
none_tabled plan = record { as_many = refl; same = λ n table is. absurd (cc) }

pub more_tabled : (plan : Plan) (count : ℕ) (tables : List (List bridge.TableRow)) (table : List bridge.TableRow) → AreTabled plan count tables
    → rule.HasSameRoutes (map table_row (rows_of plan count)) table → AreTabled plan (count + 1) (tables ++ table ∷ [])
more_tabled plan count tables table before routes = record {
  as_many = omega (arith, length_push tables table, before.as_many);
  same = λ n other is. elim (in_push tables table n other is) [
    | inl old ↦ before.same n other old
    | inr (at, equal) ↦ (
        let place : count ≡ n = omega (arith, at, before.as_many) in
        subst (λ (t : List bridge.TableRow). rule.HasSameRoutes (map table_row (rows_of plan n)) t) equal
        (subst (λ k. rule.HasSameRoutes (map table_row (rows_of plan k)) table) place routes))
  ];
}

pub tabled_sends : (plan : Plan) (count : ℕ) (tables : List (List bridge.TableRow)) → AreTabled plan count tables → AreTables plan count tables
tabled_sends plan count tables are =
    (are.as_many, λ n table is. sends_as (rows_of plan n) (map table_row (rows_of plan n)) table refl (are.same n table is))

-- two rows of a node that cover one EID name one next node
pub same_next : (plan : Plan) (n e : ℕ) → RowsAreApart plan → (r q : ℕ) (row other : Row) → slice_get (rows_of plan n) r ≡ Some row → slice_get (rows_of plan n) q ≡ Some other
    → Covers row e → Covers other e → row.next ≡ other.next
unfolding AreApart IsApartFromEarlier
same_next plan n e apart r q row other is is' here there = elim (cases_order r q) [
  | inl same ↦ (
      let rows : row ≡ other = same_Some row other (sym is ∙ (ap (λ k. slice_get (rows_of plan n) k) same ∙ is')) in
      ap (λ (x : Row). x.next) rows)
  | inr order ↦ elim order [
    | inl before ↦ absurd (earlier_apart (rows_of plan n) r q row other before is (apart n q other is') e there here)
    | inr after ↦ absurd (earlier_apart (rows_of plan n) q r other row after is' (apart n r row is) e here there)
  ]
]
