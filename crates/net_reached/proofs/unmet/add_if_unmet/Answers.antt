use Rattle.std.proofs.Common.{inr}
use Rattle.net_reached.proofs.unmet.add_if_unmet.Goals as goal

pub returns : goal.returns
returns c = inr (λ met. cc (c.in_ok-is_met.ensures.1 met, c.if-branch.false), c.in_ok-push.ensures.items)
