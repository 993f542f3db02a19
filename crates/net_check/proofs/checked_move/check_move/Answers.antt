use Rattle.net_runs.{proofs.WalkedExact.{walked_runs_as_sent}, specs.States.{unit_of}, proofs.Exact.{sent_by}}
use Rattle.net_tables.specs.TwoPlans.{moving}
use Rattle.net_check.proofs.Whole.{accepted_headline, accepted_delivers, accepted_walks, accepted_walked_headline, accepted_walked_delivers}
use Rattle.net_check.proofs.checked_move.check_move.Goals as goal

pub returns-clause-headline : goal.returns-clause-headline
returns-clause-headline c =
    accepted_headline (moving c.args.before.now c.args.after.now) c.args.certificate.now c.in_ok-meet_rules_of_move.ensures.accepted

pub returns-clause-delivers : goal.returns-clause-delivers
returns-clause-delivers c =
    accepted_delivers (moving c.args.before.now c.args.after.now) c.args.certificate.now c.in_ok-meet_rules_of_move.ensures.accepted

pub returns-clause-walks : goal.returns-clause-walks
returns-clause-walks c =
    accepted_walks (moving c.args.before.now c.args.after.now) c.args.certificate.now c.in_ok-meet_rules_of_move.ensures.accepted

pub returns-clause-exact : goal.returns-clause-exact
returns-clause-exact c key d w = sent_by (unit_of c.args.before.now) (moving c.args.before.now c.args.after.now) key d w

pub returns-clause-walked_headline : goal.returns-clause-walked_headline
returns-clause-walked_headline c =
    accepted_walked_headline (moving c.args.before.now c.args.after.now) c.args.certificate.now c.in_ok-meet_rules_of_move.ensures.accepted

pub returns-clause-walked_delivers : goal.returns-clause-walked_delivers
returns-clause-walked_delivers c =
    accepted_walked_delivers (moving c.args.before.now c.args.after.now) c.args.certificate.now c.in_ok-meet_rules_of_move.ensures.accepted

pub returns-clause-walked_exact : goal.returns-clause-walked_exact
returns-clause-walked_exact c key d w = walked_runs_as_sent (unit_of c.args.before.now) (moving c.args.before.now c.args.after.now) key d w
