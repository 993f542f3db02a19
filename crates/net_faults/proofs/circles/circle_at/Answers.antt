use Rattle.std.{proofs.Common.{◌≡◌, ℕ, List, [], ◌∷◌, length, sym, ap, arith, rules, ◌-◌}, proofs.lemmas.List.{length_push}}
use Rattle.net_rules.{specs.Circles.{MovesBy}, proofs.Circling.{one_place_more, under_way_within, stands_there, ended_not_back}}
use Rattle.net_faults.proofs.CircleLaws.{begun, circled, led_below, above_more, one_above}
use Rattle.net_faults.proofs.circles.circle_at.Goals as goal

pub loop-count-init : goal.loop-count-init
loop-count-init c =
    let first = c.args.first in
    let are : c.push.new.self.items ≡ first ∷ [] = search rules in
    record {
      under = begun (MovesBy c.args.table.now) first c.push.new.self.items are;
      above = one_above first c.push.new.self.items are;
      long = omega (arith, ap (λ (xs : List ℕ). length xs) are);
    }

pub returns-in_default : goal.returns-in_default
returns-in_default c = λ circle.
    let under = c.loop-count.invariant.under in
    absurd (ended_not_back c.args.table.now c.args.first (length c.loop-count.places.items - 1) c.loop-count.at (stands_there (MovesBy c.args.table.now) c.args.first c.loop-count.at c.loop-count.places.items under) (sym c.in_default.ensures) circle)

pub returns-then-next-first : goal.returns-then-next-first
returns-then-next-first c =
    led_below (MovesBy c.args.table.now) c.args.first c.loop-count.at c.in-Some.next c.loop-count.places.items c.loop-count.invariant.under (sym c.in-Some.ensures) c.if-next-first.true

pub returns-then-next-first-2 : goal.returns-then-next-first-2
returns-then-next-first-2 c =
    rw c.in_ok-push-2.ensures.items (circled (MovesBy c.args.table.now) c.args.first c.loop-count.at c.in-Some.next c.loop-count.places.items c.loop-count.invariant.under c.loop-count.invariant.above (sym c.in-Some.ensures) c.if-next-first-2.true)

pub loop-count-preserved : goal.loop-count-preserved
loop-count-preserved c =
    let places = c.loop-count.places.items in
    rw c.in_ok-push-2.ensures.items (record {
      under = one_place_more (MovesBy c.args.table.now) c.args.first c.loop-count.at c.in-Some.next places c.loop-count.invariant.under (sym c.in-Some.ensures) c.if-next-first-2.false;
      above = above_more c.args.first c.in-Some.next places c.loop-count.invariant.above c.if-next-first.false;
      long = omega (arith, length_push places c.in-Some.next, c.loop-count.invariant.long);
    })

pub returns : goal.returns
returns c = λ circle.
    let within = under_way_within c.args.table.now c.args.first c.loop-count.at c.loop-count.places.items c.loop-count.invariant.under circle in
    absurd (omega (arith, within, c.loop-count.invariant.long, c.loop-count-test.false))
