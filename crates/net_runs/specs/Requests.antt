-- That termini answer: a request that comes at one is answered.
use Rattle.std.specs.Prelude.{◌≡◌, ◌≢◌, ℕ, ◌+◌, ◌<◌, ◌≤◌, List, [], ◌∷◌, ◌++◌, length, true, Some, None, All}
use Rattle.mctp_transport.{specs.PacketValues.{PacketValue, KeyValue}, specs.Cutting.{ArePacketsOf}}
use Rattle.plan_values.{specs.declared.plan.Plan.{Plan}, specs.declared.certificate.Certificate.{Certificate}}
use Rattle.pdr_repository.specs.Answers.{IsAsked, Answers}
use Rattle.net_tables.{specs.Routing.{Holds}, specs.Repositories.{terminus_of, records_by_place}}
use Rattle.net_runs.{specs.Termini.{TerminusState, AreBytes}, specs.States.{with_terminus, with_packets, unit_of}, specs.Events.{AnswerAt, Answered}, specs.Networks.{answer_key}, specs.Runs.{Turn, Run, reached}, specs.ExactMessages.{FitsKey}}

-- A run with whose last turn the terminus of n, which holds d, answers the request. Before that turn
-- exactly the request waits there, under the key, and the packets that the turn puts in are those of its
-- answer, to where the request came from.
pub record IsAnsweredRun (plan : Plan) (cert : Certificate) (n d : ℕ) (key : KeyValue) (request : List ℕ) : Type 0 where
  pub earlier : List Turn
  pub turn : Turn
  pub run : Run plan cert (earlier ++ turn ∷ [])
  pub asks : turn.event ≡ AnswerAt n
  pub terminus : TerminusState
  pub there : (reached plan cert earlier).terminus n ≡ Some terminus
  pub records : terminus.records ≡ records_by_place plan cert n
  pub waits : terminus.waiting ≡ record { key = key; bytes = request } ∷ []
  pub answer : List ℕ
  pub tid : ℕ
  pub answered : Answers terminus.tid terminus.records request (Some answer) tid
  pub packets : List PacketValue
  pub some : 0 < length packets
  pub are : ArePacketsOf (unit_of plan) answer key.source (answer_key d key) 0 packets
  pub tells : turn.outcome
      ≡ Answered n ((reached plan cert earlier).made + 1) ((reached plan cert earlier).made + length packets)
  pub put_in : turn.after
      ≡ with_packets
      (with_terminus (reached plan cert earlier) n (Some (record terminus { tid = tid; waiting = [] }))) n packets

-- Where a node has a terminus, each request of one packet to it can be sent so that it is answered.
abbrev pub RequestsCanBeAnswered : Plan → Certificate → Type 0
RequestsCanBeAnswered plan cert =
    (n d : ℕ) (key : KeyValue) (request : List ℕ) → n < length plan.nodes.items → Holds plan n d → d < 256
    → FitsKey key → key.owner ≡ true → terminus_of plan n ≢ None
    → All (λ e. AreBytes e.bytes) (records_by_place plan cert n)
    → AreBytes request → IsAsked request → length request ≤ unit_of plan → IsAnsweredRun plan cert n d key request
