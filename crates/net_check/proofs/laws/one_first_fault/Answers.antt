use Rattle.net_check.proofs.OneFault.{one_site, one_move_site}
use Rattle.net_check.proofs.laws.one_first_fault.Goals as goal

pub returns : goal.returns
returns c = record { plans = one_site; moves = one_move_site }
