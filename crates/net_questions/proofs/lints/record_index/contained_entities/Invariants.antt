use Rattle.net_questions.proofs.Contained.{AreContainedBelow}
use Rattle.net_questions.proofs.lints.record_index.contained_entities.Given as goal

abbrev pub invariant-loop-listed : goal.invariant-loop-listed
invariant-loop-listed l = AreContainedBelow l.plan l.node l.listed-index l.contained
