use Rattle.net_rollout.proofs.steps.are_fit.Goals as goal

pub returns-clause-fit : goal.returns-clause-fit
returns-clause-fit c = λ has. record {
  rows_alone = c.differ_in_rows_alone.ensures.0 c.if-not-differ_in_rows_alone.false;
  certified_before = c.in_ok-has_certificate.ensures.0 c.if-not-branch.false;
  certified_after = c.in_ok-has_certificate-2.ensures.0 has;
}
