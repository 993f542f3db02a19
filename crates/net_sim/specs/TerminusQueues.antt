-- Termini with the messages that wait at them.
use Rattle.std.{specs.Prelude.{◌≡◌, ◌≢◌, ◌⊎◌, ℕ, ◌<◌, List, [], ◌∷◌, map, Option, Some, None, option_map, if◌then◌else◌}, specs.VecDeque.{deque_len, deque_capacity}}
use Rattle.mctp_transport.{specs.Packets.{key_value}, specs.PacketValues.{KeyValue}}
use Rattle.pdr_repository.{specs.Records.{Entry}, specs.Answers.{Answers}}
use Rattle.net_runs.specs.Termini.{TerminusState, WaitingMessage, with_waiting}
use Rattle.net_sim.{specs.declared.refusal.Refusal.{Refusal}, specs.declared.refusal.Refusal.TheVariants.{NoTerminus, NothingWaits}, specs.declared.waiting.Waiting.{Waiting}, specs.declared.terminus_queue.TerminusQueue.{TerminusQueue}}

abbrev pub waiting_value : Waiting → WaitingMessage
waiting_value m = record { key = key_value m.key; bytes = m.bytes.items }

-- the terminus ID and the records by the termini's own meaning
abbrev pub queue_state : {T : Type 0} → (T → ℕ) → (T → List Entry) → TerminusQueue T → TerminusState
queue_state tid records d =
    record { tid = tid d.terminus; records = records d.terminus; waiting = map waiting_value d.waiting.messages.items }

-- where there is a terminus, one message more can wait without growing
abbrev pub HasRoomFor : {T : Type 0} → Option (TerminusQueue T) → Type 0
HasRoomFor None = Unit {0}
HasRoomFor (Some d) = deque_len d.waiting.messages < deque_capacity d.waiting.messages

-- a node's terminus once a message has come there: it waits if its source owns the tag
abbrev pub with_message : WaitingMessage → Option TerminusState → Option TerminusState
with_message m t = if m.key.owner then option_map (λ t. with_waiting t m) t else t

-- there is no terminus, or nothing waits there
abbrev pub IsIdle : Option TerminusState → Type 0
IsIdle None = Unit {0}
IsIdle (Some t) = t.waiting ≡ []

-- The oldest message that waits, of this key, is taken off, and this is the terminus's answer to
-- it, which may change the terminus ID.
pub record AnswersOldest (old : Option TerminusState) (key : KeyValue) (answer : Option (List ℕ))
    (new : Option TerminusState) : Type 0 where
  pub terminus : TerminusState
  pub oldest : WaitingMessage
  pub rest : List WaitingMessage
  pub tid : ℕ
  pub there : old ≡ Some terminus
  pub waits : terminus.waiting ≡ oldest ∷ rest
  pub of_key : key ≡ oldest.key
  pub answers : Answers terminus.tid terminus.records oldest.bytes answer tid
  pub after : new ≡ Some (record terminus { tid = tid; waiting = rest })

-- why nothing is asked there, if so
abbrev pub IsIdleFor : Option TerminusState → Option Refusal → Type 0
IsIdleFor None why = why ≡ Some NoTerminus
IsIdleFor (Some t) why = ((t.waiting ≡ []) × (why ≡ Some NothingWaits)) ⊎ ((t.waiting ≢ []) × (why ≡ None))
