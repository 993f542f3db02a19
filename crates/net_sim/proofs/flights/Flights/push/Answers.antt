use Rattle.std.proofs.Common.{List, refl, sym, ◌∙◌, ◌+◌, ap, subst, arith}
use Rattle.net_sim.{specs.declared.flights.Slot.{Slot}, proofs.Keeping.{Ascend, AreGiven, HasEmpty, meant, one_if_none, meant_length, push_ascend, push_given, push_counted, push_means}, specs.Tallies.{AreTallied}, proofs.Tallying.{push_tallied, count_fits}}
use Rattle.net_sim.proofs.flights.Flights.push.Goals as goal

pub overflow_cast-self : goal.overflow_cast-self
overflow_cast-self c = let now = c.args.self.now in omega (arith, c.requires.few, meant_length now.slots.items now.next)

pub overflow_add-self-2 : goal.overflow_add-self-2
overflow_add-self-2 c = let now = c.args.self.now in omega (arith, c.requires.few, meant_length now.slots.items now.next)

pub enter-requires : goal.enter-requires
enter-requires c =
    let now = c.args.self.now in
    count_fits now.counts now.slots.items now.tallied (omega (arith, now.slots.small)) c.args.flight

pub invariant_of-self : goal.invariant_of-self
invariant_of-self c =
    let now = c.args.self.now in
    let slots = now.slots.items in
    let new : Slot = record { number = now.next; flight = c.args.flight } in
    let one = one_if_none c.args.flight c.is_none.result c.from.result c.is_none.ensures c.from.ensures in
    let items = c.push_reserved.ensures.items in
    record {
      begun = omega arith;
      ascending = subst Ascend (sym items) (push_ascend slots now.next now.ascending now.given new refl);
      given = subst (λ (ss : List Slot). AreGiven ss (now.next + 1)) (sym items) (push_given slots now.next now.ascending now.given new refl);
      counted = subst (λ (ss : List Slot). HasEmpty ss (now.empty + c.from.result)) (sym items) (omega (arith, now.counted, one, push_counted slots now.next now.ascending now.given new refl));
      tallied = subst (AreTallied c.enter.new.counts) (sym items) (push_tallied now.counts c.enter.new.counts slots now.tallied new c.enter.ensures);
    }

pub returns-clause-slots : goal.returns-clause-slots
returns-clause-slots c =
    let now = c.args.self.now in
    let new : Slot = record { number = now.next; flight = c.args.flight } in
    ap (λ (ss : List Slot). meant ss (now.next + 1)) c.push_reserved.ensures.items ∙ push_means now.slots.items now.next now.ascending now.given new refl
