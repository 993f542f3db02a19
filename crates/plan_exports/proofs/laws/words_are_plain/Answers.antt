use Rattle.plan_exports.proofs.Plain.{node_plain, bus_plain, all_plain}
use Rattle.plan_exports.proofs.laws.words_are_plain.Goals as goal

pub returns-clause-nodes : goal.returns-clause-nodes
returns-clause-nodes c = node_plain

pub returns-clause-buses : goal.returns-clause-buses
returns-clause-buses c = bus_plain

pub returns-clause-devices : goal.returns-clause-devices
returns-clause-devices c = all_plain
