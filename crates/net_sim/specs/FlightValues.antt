-- What a flight that a network keeps stands for.
use Rattle.net_runs.specs.States as state
use Rattle.net_sim.{specs.KeptPackets.{kept_frame}, specs.declared.flights.Flight.{Flight}}

abbrev pub flight_value : Flight → state.Flight
flight_value f = record { packet = kept_frame f.packet; origin = f.origin; node = f.node; hops = f.hops }
