use Rattle.pdr_record.{specs.Lists.{entities_value}, specs.ListsLeft.{entities_left}}
use Rattle.net_questions.proofs.Contained.{IsOnTheWay}
use Rattle.net_questions.proofs.lints.entities.note_all.Given as goal

abbrev pub invariant-loop-entity : goal.invariant-loop-entity
invariant-loop-entity l = IsOnTheWay l.fn.contained (entities_value l.entities) l.contained (entities_left l.left)
