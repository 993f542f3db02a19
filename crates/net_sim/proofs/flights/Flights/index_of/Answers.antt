use Rattle.std.{proofs.Common.{rules}, proofs.lemmas.List.Sorted.{answers_always}}
use Rattle.net_sim.{specs.declared.flights.Slot.{Slot}, proofs.Keeping.{found_index, found_none}}
use Rattle.net_sim.proofs.flights.Flights.index_of.Goals as goal

pub returns-in-Ok-clause-found : goal.returns-in-Ok-clause-found
returns-in-Ok-clause-found c =
    found_index c.args.self.now.slots.items c.as_slice-slots.result.now c.args.number c.in-Ok.index c.as_slice-slots.ensures.value c.in-Ok.ensures.bound
    (c.in-Ok.ensures.position (λ (slot : Slot). slot.number) (answers_always _ _ _ (λ f a r g h. search rules)))

pub returns-in-Err-clause-none : goal.returns-in-Err-clause-none
returns-in-Err-clause-none c =
    found_none c.args.self.now.slots.items c.as_slice-slots.result.now c.args.number c.in-Err.field-0 c.as_slice-slots.ensures.value c.args.self.now.ascending
    (c.in-Err.ensures.position (λ (slot : Slot). slot.number) (answers_always _ _ _ (λ f a r g h. search rules)))
