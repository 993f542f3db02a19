use Rattle.std.proofs.Common.{◌≡◌, take}
use Rattle.audited_captures.{specs.Answers.{answer_values}, specs.Failures.{failures_of}}
use Rattle.audited_captures.proofs.failures.failures_of.Given as goal

abbrev pub invariant-loop-answer : goal.invariant-loop-answer
invariant-loop-answer l = l.failures.items ≡ failures_of l.topic (answer_values (take l.answer-index l.answers))
