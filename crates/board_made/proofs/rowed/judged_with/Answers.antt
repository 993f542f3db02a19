use Rattle.board_made.proofs.rowed.judged_with.Goals as goal

pub returns-in-None : goal.returns-in-None
returns-in-None c = record {
  plan = c.args.plan.now;
  certificate = c.args.certificate.now;
  reads = c.requires;
  rowed = c.in_ok-reason.ensures.rowed c.in-None.is;
}
