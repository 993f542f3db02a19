use Rattle.std.{proofs.Common.{◌≡◌, ℕ, ◌<◌, List, length, get_or, take, Some, refl, sym, ◌∙◌, subst, arith}, specs.Prelude.{slice_get}, proofs.lemmas.List.{get_or-take, length-take}, proofs.lemmas.Option.{slice_get_within, get_or_from_slice_get, slice_get-get_or}}
use Rattle.plan_values.specs.declared.nodes.Row.{Row}
use Rattle.net_tables.{specs.Routing.{rows_of, Covers}, specs.Rows.{AreApart, IsApartFromEarlier}}
use Rattle.net_explained.proofs.Items.{has_item, of_item, not_of_item}
use Rattle.net_explained.proofs.causes.rows.overlapped.Goals as goal

not_apart : (rows : List Row) (r i e : ℕ) (row other : Row) → i < r → slice_get rows i ≡ Some other → Covers row e → Covers other e → ¬ IsApartFromEarlier rows r row
unfolding IsApartFromEarlier AreApart
not_apart rows r i e row other less at covers both apart =
    let within : i < length rows = slice_get_within rows i other at in
    let long = length-take r rows in
    let within_those : i < length (take r rows) = omega (arith, within, less, long) in
    let here : get_or (take r rows) i other ≡ other = get_or-take r rows i other less ∙ get_or_from_slice_get rows i other other at in
    apart i other within_those e covers (subst (λ (x : Row). Covers x e) (sym here) both)

apart : (rows : List Row) (r : ℕ) (row : Row) → ((i e : ℕ) → i < r → ¬ (((other : Row) × (slice_get rows i ≡ Some other) × Covers other e) × Covers row e)) → IsApartFromEarlier rows r row
unfolding IsApartFromEarlier AreApart
apart rows r row none i d within e covers both =
    let long = length-take r rows in
    let less : i < r = omega (arith, within, long) in
    let in_rows : i < length rows = omega (arith, within, long) in
    let same : get_or (take r rows) i d ≡ get_or rows i d = get_or-take r rows i d less in
    none i e less ((get_or rows i d, slice_get-get_or rows i d in_rows, subst (λ (x : Row). Covers x e) same both), covers)

pub returns-in-Some : goal.returns-in-Some
returns-in-Some c =
    let rows = rows_of c.args.plan.now c.args.node in
    let row = c.in_ok-found.found.now in
    let e = c.in-Some.eid.value in
    let found = c.in-Some.ensures in
    let other = found.1.0 in (
      (refl, (found.0, other, has_item rows c.args.row (λ (r : Row). Covers r e) row c.in_ok-found.ensures found.1.1)),
      not_of_item rows c.args.row (IsApartFromEarlier rows c.args.row) row c.in_ok-found.ensures
          (not_apart rows c.args.row c.in-Some.earlier e row other.0 found.0 other.1 found.1.1 other.2),
    )

pub returns-in-None : goal.returns-in-None
returns-in-None c =
    let rows = rows_of c.args.plan.now c.args.node in
    let row = c.in_ok-found.found.now in
    of_item rows c.args.row (IsApartFromEarlier rows c.args.row) row c.in_ok-found.ensures (apart rows c.args.row row (λ i e less. c.in-None.ensures i e less))
