use Rattle.net_questions.{specs.Lint.{IsSensorRecord}, proofs.FirstNoted.{AreFirstBelow}}
use Rattle.net_questions.proofs.lints.record_index.first_sensors.Given as goal

abbrev pub invariant-loop-at : goal.invariant-loop-at
invariant-loop-at l = AreFirstBelow IsSensorRecord l.plan l.node l.at l.first
