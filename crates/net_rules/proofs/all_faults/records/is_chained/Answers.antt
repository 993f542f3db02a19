use Rattle.std.{proofs.Common.{◌≡◌, Some, None, map, sym, arith}, specs.Prelude.{slice_get}}
use Rattle.net_rules.proofs.EntryLaws.{chained_by, place_of_chained, unchained}
use Rattle.net_tables.proofs.Elements.{element}
use Rattle.net_rules.proofs.all_faults.records.is_chained.Goals as goal

pub returns-in-Some : goal.returns-in-Some
returns-in-Some c =
    let records = c.args.records.now in
    let places = map (λ p. p.value) c.args.places.now in
    let place = c.in-Some.place in
    let given : slice_get places c.args.index ≡ Some place = sym c.in-Some.ensures.given in
    let at = c.is_chained_at.ensures in (
      λ yes r is. (let found = at.0 yes in chained_by records places c.args.index place r given found.0 found.1 (found.2 r is)),
      λ chained.
          let one = element records c.args.index (omega arith) in
          let first = place_of_chained records places c.args.index place one.0 given (chained one.0 one.1) in
          at.1 (first.0, first.1, λ r is. (place_of_chained records places c.args.index place r given (chained r is)).2),
    )

pub returns-in-None : goal.returns-in-None
returns-in-None c =
    let records = c.args.records.now in
    let places = map (λ p. p.value) c.args.places.now in
    let none : slice_get places c.args.index ≡ None = sym c.in-None.ensures.given in (
      λ h. absurd (cc h),
      λ chained. absurd (let one = element records c.args.index (omega arith) in unchained records places c.args.index one.0 none (chained one.0 one.1)),
    )
