use Rattle.net_explained.proofs.Healing.{edits_take_faults_away}
use Rattle.net_explained.proofs.laws.tried_edits_take_faults_away.Goals as goal

pub returns : goal.returns
returns c = edits_take_faults_away
