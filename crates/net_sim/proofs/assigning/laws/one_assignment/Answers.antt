use Rattle.net_sim.proofs.AssignLaw as law
use Rattle.net_sim.proofs.assigning.laws.one_assignment.Goals as goal

pub returns : goal.returns
returns c = law.one_assignment
