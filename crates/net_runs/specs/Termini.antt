-- A terminus of the network at one moment: its repository, and the messages that wait for an answer.
use Rattle.std.specs.Prelude.{ℕ, ◌<◌, List, [], ◌∷◌, ◌++◌, Option, option_map, All}
use Rattle.mctp_transport.specs.PacketValues.{KeyValue}
use Rattle.plan_values.{specs.declared.plan.Plan.{Plan}, specs.declared.certificate.Certificate.{Certificate}}
use Rattle.pdr_repository.specs.Records.{Entry}
use Rattle.net_tables.specs.Repositories.{terminus_of, records_by_place}

-- a message that has come whole, and the key of its packets
pub record WaitingMessage : Type 0 where
  pub key : KeyValue
  pub bytes : List ℕ

-- the terminus ID, the records by place, and the waiting messages, oldest first
pub record TerminusState : Type 0 where
  pub tid : ℕ
  pub records : List Entry
  pub waiting : List WaitingMessage

-- one message more waits
abbrev pub with_waiting : TerminusState → WaitingMessage → TerminusState
with_waiting t message = record t { waiting = t.waiting ++ message ∷ [] }

-- a node's terminus as it is planned
abbrev pub terminus_at_start : Plan → Certificate → ℕ → Option TerminusState
terminus_at_start plan cert n =
    option_map (λ t. record { tid = t.tid; records = records_by_place plan cert n; waiting = [] }) (terminus_of plan n)

abbrev pub AreBytes : List ℕ → Type 0
AreBytes bytes = All (λ b. b < 256) bytes

-- the records and the waiting messages are bytes
abbrev pub HoldsBytes : TerminusState → Type 0
HoldsBytes t = All (λ e. AreBytes e.bytes) t.records × All (λ m. AreBytes m.bytes) t.waiting
