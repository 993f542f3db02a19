use Rattle.net_rules.specs.Holders.{AreFirstHolders}
use Rattle.net_rules.proofs.holders.first_holders.Given as goal

abbrev pub invariant-loop-node : goal.invariant-loop-node
invariant-loop-node l = AreFirstHolders l.plan l.node l.holders.items
