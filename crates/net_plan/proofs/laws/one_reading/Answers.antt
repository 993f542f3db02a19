use Rattle.net_plan.proofs.OneReading.{one_plan, one_certificate, one_list}
use Rattle.net_plan.proofs.laws.one_reading.Goals as goal

pub returns : goal.returns
returns c = record { plan = one_plan; certificate = one_certificate; events = one_list }
