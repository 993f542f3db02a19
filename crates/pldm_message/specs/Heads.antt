-- What the heads and outcomes of the code stand for.
use Rattle.std.specs.Prelude.{ℕ, Result, Ok, Err}
use Rattle.pldm_message.{specs.declared.head.RequestHead.{RequestHead}, specs.declared.head.ResponseHead.{ResponseHead}, specs.declared.completion_code.CompletionCode.{CompletionCode}, specs.Messages.{RequestHeadValue, ResponseHeadValue, RequestMessage, ResponseMessage}}

abbrev pub request_head : RequestHead → RequestHeadValue
request_head h = record { kind = h.kind; reserved = h.reserved; instance = h.instance.value }

abbrev pub answer_head : ResponseHead → ResponseHeadValue
answer_head h = record { reserved = h.reserved; instance = h.instance.value }

-- the outcome, with the data as plain values
abbrev pub outcome_value : {X A : Type 0} → (X → A) → Result X CompletionCode → Result A ℕ
outcome_value value (Ok x) = Ok (value x)
outcome_value value (Err code) = Err code.value

abbrev pub request_of : {A : Type 0} → RequestHead → A → RequestMessage A
request_of h body = record { head = request_head h; body = body }

abbrev pub answer_of : {X A : Type 0} → (X → A) → ResponseHead → Result X CompletionCode → ResponseMessage A
answer_of value h outcome = record { head = answer_head h; outcome = outcome_value value outcome }
