use Rattle.std.{proofs.Common.{List, rules, of_calls, sym, ◌∙◌, ap, subst, is_some}, proofs.lemmas.List.Elements.{filter_from_retain}}
use Rattle.net_sim.{specs.declared.flights.Slot.{Slot}, proofs.Keeping.{Ascend, AreGiven, HasEmpty, meant, sweep_ascend, sweep_given, sweep_counted, sweep_means}, specs.Tallies.{AreTallied}, proofs.Tallying.{sweep_tallied}}
use Rattle.net_sim.proofs.flights.Flights.sweep.Goals as goal

pub invariant_of-self : goal.invariant_of-self
invariant_of-self c =
    let now = c.args.self.now in
    let items = filter_from_retain _ (λ (slot : Slot). is_some slot.flight) (λ p x b q says. search (rules, of_calls)) _ _ _ c.retain.ensures.filtered in
    let slots = now.slots.items in
    record {
      begun = now.begun;
      ascending = subst Ascend (sym items) (sweep_ascend slots now.next now.ascending now.given);
      given = subst (λ (ss : List Slot). AreGiven ss now.next) (sym items) (sweep_given slots now.next now.ascending now.given);
      counted = subst (λ (ss : List Slot). HasEmpty ss 0) (sym items) (sweep_counted slots);
      tallied = subst (AreTallied now.counts) (sym items) (sweep_tallied now.counts slots now.tallied);
    }

pub returns-clause-same : goal.returns-clause-same
returns-clause-same c =
    let now = c.args.self.now in
    let items = filter_from_retain _ (λ (slot : Slot). is_some slot.flight) (λ p x b q says. search (rules, of_calls)) _ _ _ c.retain.ensures.filtered in
    ap (λ (ss : List Slot). meant ss now.next) items ∙ sweep_means now.slots.items now.next now.ascending now.given
