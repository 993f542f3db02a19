use Rattle.net_questions.{specs.Sensors.{IsLocatorOf}, proofs.FirstNoted.{AreFirstBelow}}
use Rattle.net_questions.proofs.lints.record_index.first_locators.Given as goal

abbrev pub invariant-loop-at : goal.invariant-loop-at
invariant-loop-at l = AreFirstBelow IsLocatorOf l.plan l.node l.at l.first
