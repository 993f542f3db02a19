-- Requests with the responses to them (DSP0236, "MCTP control message format").
use Rattle.std.{specs.Prelude.{ℕ, ◌==◌, ◌&&◌, ◌||◌, Bool, List, [], ◌∷◌, ◌++◌, Option, None, Some, if◌then◌else◌, option_to_list}, specs.Option.{option_or}}
use Rattle.mctp_control.{specs.Requests.{CommandValue, command_value}, specs.Responses.{AnswerValue, answer_value}}
use Rattle.audited_captures.{specs.Words.{WordValue, BodyValue, Asks, Answers, command_of, is_question}, specs.declared.exchanges.Exchange.{Exchange}, specs.declared.exchanges.Likeness.{Likeness}}
use Rattle.audited_captures.specs.declared.exchanges.Likeness.TheVariants as likeness

-- what was asked and what was answered, and the endpoint IDs that asked and answered
pub record ExchangeValue : Type 0 where
  pub requester : ℕ
  pub responder : ℕ
  pub command : CommandValue
  pub answer : AnswerValue

abbrev pub exchange_value : Exchange → ExchangeValue
exchange_value x = record {
  requester = x.requester.value;
  responder = x.responder.value;
  command = command_value x.command.now;
  answer = answer_value x.answer.now;
}

-- The earlier word concerns the same exchange: the requester, the message tag, the instance ID, the command and the
-- responder are the same. A request to the null endpoint ID is answered with whatever endpoint ID the device has.
abbrev pub concerns : (word earlier : WordValue) → Bool
concerns word earlier =
    earlier.requester == word.requester
    && ((earlier.responder == word.responder || earlier.responder == 0)
    && (earlier.tag == word.tag
    && (earlier.instance == word.instance && command_of earlier.body == command_of word.body)))

-- the earlier word is a request of the same command by the same requester, to whomever
abbrev pub is_alike : (word earlier : WordValue) → Bool
is_alike word earlier =
    is_question earlier.body
    && (earlier.requester == word.requester && command_of earlier.body == command_of word.body)

abbrev pub is_like : Likeness → (word earlier : WordValue) → Bool
is_like likeness.Exchange word earlier = concerns word earlier
is_like likeness.Command word earlier = is_alike word earlier

-- the last item that passes
abbrev pub last_that : {A : Type 0} → (A → Bool) → List A → Option A
last_that test [] = None
last_that test (x ∷ xs) = option_or (last_that test xs) (if test x then Some x else None)

-- An answer ends an exchange where the last earlier word that concerns it asks. Where that one answers too, the answer
-- is a repetition.
abbrev pub between : (earlier word : WordValue) → BodyValue → BodyValue → Option ExchangeValue
between earlier word (Asks command) (Answers answer) =
    Some (record { requester = word.requester; responder = word.responder; command = command; answer = answer })
between earlier word asks answers = None

abbrev pub ended_with : WordValue → Option WordValue → Option ExchangeValue
ended_with word None = None
ended_with word (Some earlier) = between earlier word earlier.body word.body

-- the exchange that a word ends, by the words before it
abbrev pub exchange_of : List WordValue → WordValue → Option ExchangeValue
exchange_of before word = ended_with word (last_that (concerns word) before)

-- the exchanges of these words, in the order of the answers
pub data AreExchanges : List WordValue → List ExchangeValue → Type 0 where
  Empty : AreExchanges [] []
  More : (ws : List WordValue) (xs : List ExchangeValue) (w : WordValue) → AreExchanges ws xs
      → AreExchanges (ws ++ w ∷ []) (xs ++ option_to_list (exchange_of ws w))
