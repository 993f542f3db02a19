use Rattle.net_runs.{specs.States.{unit_of}, proofs.WalkedExact.{walked_runs_as_sent}}
use Rattle.net_tables.specs.TwoPlans.{one_plan}
use Rattle.net_check.proofs.Whole.{accepted_headline, accepted_delivers, accepted_walks, accepted_walked_headline, accepted_walked_delivers}
use Rattle.net_check.proofs.checked.check.Goals as goal

pub returns-clause-headline : goal.returns-clause-headline
returns-clause-headline c = accepted_headline (one_plan c.args.plan.now) c.args.certificate.now (rw c.in_default.is at c.in_ok-fault.ensures)

pub returns-clause-delivers : goal.returns-clause-delivers
returns-clause-delivers c = accepted_delivers (one_plan c.args.plan.now) c.args.certificate.now (rw c.in_default.is at c.in_ok-fault.ensures)

pub returns-clause-walks : goal.returns-clause-walks
returns-clause-walks c = accepted_walks (one_plan c.args.plan.now) c.args.certificate.now (rw c.in_default.is at c.in_ok-fault.ensures)

pub returns-clause-walked_headline : goal.returns-clause-walked_headline
returns-clause-walked_headline c = accepted_walked_headline (one_plan c.args.plan.now) c.args.certificate.now (rw c.in_default.is at c.in_ok-fault.ensures)

pub returns-clause-walked_delivers : goal.returns-clause-walked_delivers
returns-clause-walked_delivers c = accepted_walked_delivers (one_plan c.args.plan.now) c.args.certificate.now (rw c.in_default.is at c.in_ok-fault.ensures)

pub returns-clause-walked_exact : goal.returns-clause-walked_exact
returns-clause-walked_exact c key d w = walked_runs_as_sent (unit_of c.args.plan.now) (one_plan c.args.plan.now) key d w
