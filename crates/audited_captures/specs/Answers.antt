-- What references to answers stand for.
use Rattle.std.{specs.Prelude.{List, map}, specs.Borrow.{Bor}}
use Rattle.mctp_control.{specs.Responses.{AnswerValue, answer_value}, specs.declared.response.ControlAnswer.{ControlAnswer}}

abbrev pub answer_values : List (Bor ControlAnswer) → List AnswerValue
answer_values answers = map (λ a. answer_value a.now) answers
