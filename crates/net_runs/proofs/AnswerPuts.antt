-- What a step puts in: the packet of a put, or packets of a terminus's answer to its oldest message.
use Rattle.std.{proofs.Common.{◌≡◌, ◌⊎◌, ℕ, ◌+◌, ◌≤◌, List, [], ◌∷◌, length, Some, None, refl, sym, ◌∙◌, ap, subst, inl, inr, arith}, specs.List.{AllByRecursion}, proofs.lemmas.Bool.Decides.{eqb_tells}, proofs.lemmas.Option.{same_Some}}
use Rattle.mctp_transport.{specs.PacketValues.{PacketValue, Spelled}, specs.Sending.{IsPacketOf}, proofs.InOrder.{all_from}}
use Rattle.plan_values.specs.declared.plan.Plan.{Plan}
use Rattle.net_tables.{specs.TwoPlans.{Tables}, specs.Routing.{Holds}}
use Rattle.pdr_repository.specs.Answers.{Answers}
use Rattle.net_runs.{specs.Termini.{TerminusState, WaitingMessage}, specs.States.{NetworkState, Flight, with_packet, with_packets, with_terminus, unit_of}, specs.Events.{EventValue, Put, AnswerAt, OutcomeValue, PutIn, Answered}, specs.Networks.{Step, answer_key}, specs.Runs.{IsPutOf}, proofs.Nexts.{new_flight, older_stays}}

-- the flights that are made for packets hold these packets
pub made_hold : (P : PacketValue → Type 0) (w : NetworkState) (node : ℕ) (ps : List PacketValue) (k : ℕ) (f : Flight) → AllByRecursion P ps
    → w.made + 1 ≤ k → k ≤ w.made + length ps → (with_packets w node ps).flight k ≡ Some f → P f.packet
made_hold P w node [] k f all low high is = absurd (omega (arith, low, high))
made_hold P w node (p ∷ ps) k f all low high is = elim (eqb_tells k (w.made + 1)) [
  | inl same ↦
      let there : (with_packet w node p).flight k ≡ Some (new_flight node p) = rw same.0 refl in
      let made : new_flight node p ≡ f = same_Some (new_flight node p) f (sym there ∙ sym (older_stays (with_packet w node p) node ps k (omega (arith, same.1))) ∙ is) in
      let Q : Flight → Type 0 = λ g. P g.packet in
      subst Q made all.0
  | inr other ↦ made_hold P (with_packet w node p) node ps k f all.1 (omega (arith, low, other.1)) (omega (arith, high)) is
]

-- the packet is one of the answer to the oldest message that waits at the node
pub record IsOfAnswer (plan : Plan) (w : NetworkState) (node : ℕ) (p : PacketValue) : Type 0 where
  pub state : TerminusState
  pub oldest : WaitingMessage
  pub rest : List WaitingMessage
  pub answer : List ℕ
  pub next_tid : ℕ
  pub eid : ℕ
  pub stands : w.terminus node ≡ Some state
  pub waits : state.waiting ≡ oldest ∷ rest
  pub answers : Answers state.tid state.records oldest.bytes (Some answer) next_tid
  pub holds : Holds plan node eid
  pub is : IsPacketOf (unit_of plan) answer oldest.key.source (answer_key eid oldest.key) 0 p

abbrev pub IsPutBy : Plan → NetworkState → EventValue → OutcomeValue → PacketValue → Type 0
IsPutBy plan w event outcome p =
    ((node flight at : ℕ) × (bytes : List ℕ) × (event ≡ Put node bytes) × (outcome ≡ PutIn flight at) × Spelled (unit_of plan) p bytes)
    ⊎ ((node : ℕ) × (event ≡ AnswerAt node) × IsOfAnswer plan w node p)

pub put_is_by : (tables : Tables) (w : NetworkState) (event : EventValue) (outcome : OutcomeValue) (new : NetworkState) → Step tables w event outcome new
    → (p : PacketValue) → IsPutOf tables.plan event outcome new p → IsPutBy tables.plan w event outcome p
put_is_by tables w (Put node bytes) (PutIn k at) new step p put = inl (node, k, at, bytes, refl, refl, put)
put_is_by tables w (AnswerAt node) (Answered at first last) new (lawful, (t, oldest, rest, Some answer, tid, stands, waits, answers, (eid, ps, holds, cut, place, begins, ends, is)))
    p (k, f, low, high, flies, same) =
    let v : NetworkState = with_terminus w node (Some (record t { tid = tid; waiting = rest })) in
    let P : PacketValue → Type 0 = λ q. IsPacketOf (unit_of tables.plan) answer oldest.key.source (answer_key eid oldest.key) 0 q in
    let all : AllByRecursion P ps = all_from P ps (λ i q at. (ps, i, cut, at)) in
    let one = made_hold P v node ps k f all (omega (arith, begins, low)) (omega (arith, ends, high)) (ap (λ (u : NetworkState). u.flight k) (sym is) ∙ flies) in
    inr (
      node,
      refl,
      record {
        state = t;
        oldest = oldest;
        rest = rest;
        answer = answer;
        next_tid = tid;
        eid = eid;
        stands = stands;
        waits = waits;
        answers = answers;
        holds = holds;
        is = subst P same one;
      },
    )
put_is_by tables w (AnswerAt node) (Answered at first last) new (lawful, (t, oldest, rest, None, tid, stands, waits, answers, done)) p put = absurd done
put_is_by tables w _ _ new step p put = absurd put
