-- The network that emulated nodes make.
use Rattle.std.specs.Prelude.{map}
use Rattle.emulated_node.{specs.Networks.{World}, specs.Standing.{setting_of}, specs.declared.network.EmulatedNetwork.{EmulatedNetwork}}

abbrev pub world_of : {T : Type 0} → EmulatedNetwork T → World
world_of net = record { plan = net.plan.now; settings = map setting_of net.nodes.items; outside = net.outside }
