-- What a device's private calls answer, as bytes.
use Rattle.std.specs.Prelude.{ℕ, List, [], ◌∷◌, Result, Ok, Err, drop}
use Rattle.mctp_control.{specs.Responses.{AnswerValue, answer_bytes, answer_value}, specs.declared.response.CompletionCode.{CompletionCode}, specs.declared.response.ControlAnswer.{ControlAnswer}}

-- the completion code of an answer and the bytes after it, without the command's number
abbrev pub content_bytes : AnswerValue → List ℕ
content_bytes answer = drop 1 (answer_bytes answer)

-- that of the answer, or the code alone
abbrev pub content_of : Result ControlAnswer CompletionCode → List ℕ
content_of (Ok answer) = content_bytes (answer_value answer)
content_of (Err r) = r.code ∷ []
