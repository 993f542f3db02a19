use Rattle.std.{proofs.Common.{◌≡◌, ℕ, ◌-◌, ◌+◌, arith, Some, length, subst, sym, List, Option, slice_set}, proofs.lemmas.Option.{slice_get_within}}
use Rattle.plan_values.specs.declared.terminus.PlannedRecord.{PlannedRecord}
use Rattle.net_rules.proofs.ChainPlaces.{AreFromTheEndBelow, none_given, one_given, given_all, given_enough, index_some, index_none}
use Rattle.net_rules.proofs.certifying.chains.places_from_the_end.Goals as goal

pub loop-place-init : goal.loop-place-init
loop-place-init c =
    let P : ℕ → Type 0 = λ count. AreFromTheEndBelow c.args.records.now count 0 c.in_ok-places.places.items in
    let Q : List (Option ℕ) → Type 0 = λ places. AreFromTheEndBelow c.args.records.now 0 0 places in
    let none : 0 ≡ length c.args.records.now - length c.args.records.now = omega arith in
    subst P none (subst Q (sym c.in_ok-places.ensures) (none_given c.args.records.now c.requires.linked))

pub index_mut-requires : goal.index_mut-requires
index_mut-requires c =
    let named = index_some (λ (r : PlannedRecord). r.next) c.args.records.now c.args.nexts.now c.requires.nexts c.loop-place.next c.in-Some.record (sym c.in-Some.ensures) in
    omega (arith, slice_get_within c.args.records.now c.in-Some.record named.0 named.1, c.loop-place.invariant.long)

pub handle_at-next-requires : goal.handle_at-next-requires
handle_at-next-requires c =
    let named = index_some (λ (r : PlannedRecord). r.next) c.args.records.now c.args.nexts.now c.requires.nexts c.loop-place.next c.in-Some.record (sym c.in-Some.ensures) in
    slice_get_within c.args.records.now c.in-Some.record named.0 named.1

pub loop-place-preserved : goal.loop-place-preserved
loop-place-preserved c =
    let records = c.args.records.now in
    let named = index_some (λ (r : PlannedRecord). r.next) records c.args.nexts.now c.requires.nexts c.loop-place.next c.in-Some.record (sym c.in-Some.ensures) in
    let count = length records - c.loop-place.place in
    let place = c.loop-place.place - 1 in
    let places = slice_set c.loop-place.places.items c.in-Some.record (Some place) in
    let left : place + 1 + count ≡ length records = omega arith in
    let more : count + 1 ≡ length records - place = omega arith in
    let given = one_given records c.requires.linked count c.loop-place.next c.loop-place.places.items c.loop-place.invariant c.in-Some.record place named.0 named.1 named.2 left in
    let P : ℕ → Type 0 = λ n. AreFromTheEndBelow records n named.0.handle places in
    let Q : ℕ → Type 0 = λ handle. AreFromTheEndBelow records (length records - place) handle places in
    subst Q (sym (c.handle_at-next.ensures named.0 named.1)) (subst P more given)

pub returns : goal.returns
returns c =
    let enough : length c.args.records.now - c.loop-place.place ≡ length c.args.records.now = omega (arith, c.loop-place-test.false) in
    given_enough c.args.records.now c.requires.linked (length c.args.records.now - c.loop-place.place) c.loop-place.next c.loop-place.places.items c.loop-place.invariant enough

pub returns-in-None : goal.returns-in-None
returns-in-None c =
    given_all c.args.records.now c.requires.linked (length c.args.records.now - c.loop-place.place) c.loop-place.next c.loop-place.places.items c.loop-place.invariant
    (index_none (λ (r : PlannedRecord). r.next) c.args.records.now c.args.nexts.now c.requires.nexts c.loop-place.next (sym c.in-None.ensures))
