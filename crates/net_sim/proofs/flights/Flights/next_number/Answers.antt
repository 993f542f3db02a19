use Rattle.net_sim.proofs.Keeping.{meant_length}
use Rattle.net_sim.proofs.flights.Flights.next_number.Goals as goal

pub returns-clause-next : goal.returns-clause-next
returns-clause-next c = let now = c.args.self.now in meant_length now.slots.items now.next
