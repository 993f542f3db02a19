use Rattle.std.{proofs.Common.{◌≡◌, drop}, specs.List.{list_any}}
use Rattle.audited_captures.{specs.Answers.{answer_values}, specs.Identities.{tells_pool}}
use Rattle.audited_captures.proofs.untold.some_tells_pool.Given as goal

abbrev pub invariant-loop-answer : goal.invariant-loop-answer
invariant-loop-answer l = list_any tells_pool (answer_values l.answers) ≡ list_any tells_pool (answer_values (drop l.answer-index l.answers))
