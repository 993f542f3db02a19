-- A request that comes at a terminus is answered.
use Rattle.std.{proofs.Common.{◌≡◌, ℕ, ◌+◌, ◌<◌, ◌≤◌, true, List, [], ◌∷◌, length, Option, Some, None, sym, refl, ap, ◌∙◌, subst, inl, inr, arith}, specs.Prelude.{All}, proofs.lemmas.Bool.Decides.{eqb_tells}, proofs.lemmas.Option.{none-some}}
use Rattle.mctp_transport.{specs.PacketValues.{PacketValue, KeyValue}, specs.Cutting.{ArePacketsOf}, specs.Histories.{Arrived, after, Comes}, specs.Hearing.{Whole}, proofs.PacketLists.{packets_join}, proofs.InOrder.{comes_in_order}, proofs.Sending.{few_packets, many_packets}}
use Rattle.plan_values.{specs.declared.plan.Plan.{Plan}, specs.declared.certificate.Certificate.{Certificate}, specs.declared.terminus.PlannedTerminus.{PlannedTerminus}}
use Rattle.pdr_repository.{specs.Answers.{IsAsked, Answers}, proofs.SomeAnswers.{SomeAnswer, some_answering}}
use Rattle.net_tables.{specs.Routing.{Holds}, specs.Repositories.{terminus_of, records_by_place}, specs.TwoPlans.{one_plan}}
use Rattle.net_runs.{specs.Termini.{TerminusState, WaitingMessage, AreBytes, with_waiting}, specs.States.{NetworkState, at_start, with_terminus, with_packets, with_input, without_flight, with_packet, with_received, unit_of, slots, limit}, specs.Events.{AnswerAt, Refusal, N01, N02, N03, N04, N05, N06, N07, Answered, IsRefused, most_flights}, specs.Networks.{Step, answer_key}, specs.Runs.{Turn}, specs.ExactMessages.{Epoch, FitsKey}, specs.Requests.{IsAnsweredRun, RequestsCanBeAnswered}, proofs.Sends.{HasHeard, IsSendable, put_turn, moved_turn, puts, moves, has_heard}, proofs.Sent.{message_packets, packets_some, sendable}, proofs.Steps.{some_packets}}

-- a request has an answer, which isn't empty
some_answer : (tid : ℕ) (records : List _) (request : List ℕ) (answer : Option (List ℕ)) (tid_after : ℕ) → IsAsked request → Answers tid records request answer tid_after
    → (bytes : List ℕ) × (answer ≡ Some bytes) × (0 < length bytes)
some_answer tid records request answer tid_after asked (inl (not, none)) = absurd (not asked)
some_answer tid records request answer tid_after asked (inr (is, (h, reply, begins, same, answers))) = (_, same, omega arith)

-- a turn of w with which the terminus of n answers the request under the key
record IsAnsweredTurn (plan : Plan) (n d : ℕ) (key : KeyValue) (request : List ℕ) (w : NetworkState) (t : TerminusState) (rest : List WaitingMessage) : Type 0 where
  turn : Turn
  step : Step (one_plan plan) w turn.event turn.outcome turn.after
  asks : turn.event ≡ AnswerAt n
  answer : List ℕ
  tid : ℕ
  answered : Answers t.tid t.records request (Some answer) tid
  packets : List PacketValue
  some : 0 < length packets
  are : ArePacketsOf (unit_of plan) answer key.source (answer_key d key) 0 packets
  tells : turn.outcome ≡ Answered n (w.made + 1) (w.made + length packets)
  put_in : turn.after ≡ with_packets (with_terminus w n (Some (record t { tid = tid; waiting = rest }))) n packets

module _ (plan : Plan) (cert : Certificate) (n d : ℕ) (key : KeyValue) (request : List ℕ) (there : n < length plan.nodes.items) (holds : Holds plan n d) (small : d < 256) (fits : FitsKey key) where
  -- the oldest message is a request, so the terminus answers it
  answers_oldest : (w : NetworkState) (made : ℕ) (ps : List PacketValue) (t : TerminusState) (rest : List WaitingMessage) → HasHeard w n made ps → made + 64 < most_flights
      → w.terminus n ≡ Some t → t.waiting ≡ record { key = key; bytes = request } ∷ rest → All (λ e. AreBytes e.bytes) t.records → AreBytes request → IsAsked request
      → IsAnsweredTurn plan n d key request w t rest
  answers_oldest w made ps t rest stands few is waits records bytes asked = by (some_answering t.tid t.records request records bytes)
    where
      may : (why : Refusal) → ¬ IsRefused (one_plan plan) w (AnswerAt n) why
      may N01 refused = omega arith
      may N02 refused = refused
      may N03 refused = refused
      may N04 refused = none-some t (sym refused ∙ is)
      may N05 refused = let e : t.waiting ≡ [] = rw is at refused in omega (arith, ap length (sym waits ∙ e))
      may N06 refused = omega (arith, stands.number)
      may N07 refused = refused

      by : SomeAnswer t.tid t.records request → IsAnsweredTurn plan n d key request w t rest
      by s =
          let a = some_answer t.tid t.records request s.answer s.tid_after asked s.answers in
          let A : Option (List ℕ) → Type 0 = λ o. Answers t.tid t.records request o s.tid_after in
          let v : NetworkState = with_terminus w n (Some (record t { tid = s.tid_after; waiting = rest })) in
          let packets = some_packets plan a.0 key.source (answer_key d key) in
          record {
            turn = record { event = AnswerAt n; outcome = Answered n (v.made + 1) (v.made + length packets.0); after = with_packets v n packets.0 };
            step = (
              may,
              (t, record { key = key; bytes = request }, rest, Some a.0, s.tid_after, is, waits, subst A a.1 s.answers, (d, packets.0, holds, packets.1, refl, refl, refl, refl)),
            );
            asks = refl;
            answer = a.0;
            tid = s.tid_after;
            answered = subst A a.1 s.answers;
            packets = packets.0;
            some = packets_some (unit_of plan) a.0 key.source (answer_key d key) packets.0 packets.1 a.2;
            are = packets.1;
            tells = refl;
            put_in = refl;
          }

  -- what waits once the request has come
  waits_there : (w : NetworkState) (t : TerminusState) → w.terminus n ≡ Some t → key.owner ≡ true
      → (with_received w n key (Whole request)).terminus n ≡ Some (with_waiting t (record { key = key; bytes = request }))
  waits_there w t is owner = elim (eqb_tells n n) [ inl same ↦ rw (owner, same.0, is) refl | inr other ↦ absurd (other.1 refl) ]

  asked_run : key.owner ≡ true → (t : PlannedTerminus) → terminus_of plan n ≡ Some t → All (λ e. AreBytes e.bytes) (records_by_place plan cert n) → AreBytes request → IsAsked request
      → 1 ≤ length request → length request ≤ (unit_of plan) → IsAnsweredRun plan cert n d key request
  asked_run owner t is records bytes asked some short = by (message_packets plan request d key)
    where
      by : (ps : List PacketValue) × ArePacketsOf (unit_of plan) request d key 0 ps → IsAnsweredRun plan cert n d key request
      by ([], are) = absurd (omega (arith, many_packets (unit_of plan) request d key 0 [] are))
      by (p ∷ q ∷ ps, are) = absurd (omega (arith, few_packets (unit_of plan) 1 request d key 0 (p ∷ q ∷ ps) are (omega arith)))
      by (p ∷ [], are) =
          let epoch : Epoch = record { message = request; first_number = 0 } in
          let w : NetworkState = at_start plan cert in
          let start : HasHeard w n 0 [] = record { none = λ k. refl; number = refl; heard = refl } in
          let may_send : IsSendable plan n d key epoch there holds p = (sendable plan n d key request there holds small fits (p ∷ []) are).0 in
          let comes : Comes slots limit (after [] (Arrived p)) request = comes_in_order slots limit [] p request (omega arith) (packets_join (unit_of plan) request d key 0 (p ∷ []) (omega arith) are) (omega arith) in
          let one = put_turn plan n d key epoch there holds w p in
          let two = moved_turn plan n d key epoch there holds w p (Whole request) in
          let stands = has_heard plan n d key epoch there holds w [] 0 start (omega arith) p may_send (Whole request) in
          let state : TerminusState = record { tid = t.tid; records = records_by_place plan cert n; waiting = [] } in
          let before : (with_input (without_flight (with_packet w n p) (w.made + 1)) n (Arrived p)).terminus n ≡ Some state = rw is refl in
          let waits = waits_there (with_input (without_flight (with_packet w n p) (w.made + 1)) n (Arrived p)) state before owner in
          let asked_there : TerminusState = with_waiting state (record { key = key; bytes = request }) in
          let three = answers_oldest two.after 1 (p ∷ []) asked_there [] stands (omega arith) waits refl records bytes asked in
          record {
            earlier = one ∷ two ∷ [];
            turn = three.turn;
            run = (
              puts plan n d key epoch there holds w [] 0 start (omega arith) p may_send,
              (moves plan n d key epoch there holds w [] 0 start (omega arith) p may_send (Whole request) comes, (three.step, tt)),
            );
            asks = three.asks;
            terminus = asked_there;
            there = waits;
            records = refl;
            waits = refl;
            answer = three.answer;
            tid = three.tid;
            answered = three.answered;
            packets = three.packets;
            some = three.some;
            are = three.are;
            tells = three.tells;
            put_in = three.put_in;
          }

pub requests_can_be_answered : (plan : Plan) (cert : Certificate) → RequestsCanBeAnswered plan cert
requests_can_be_answered plan cert n d key request there holds small fits owner has records bytes asked short = by (terminus_of plan n) refl
  where
    by : (o : Option PlannedTerminus) → terminus_of plan n ≡ o → IsAnsweredRun plan cert n d key request
    by None is = absurd (has is)
    by (Some t) is = asked_run plan cert n d key request there holds small fits owner t is records bytes asked (at_least_four request asked) short
      where
        at_least_four : (bytes : List ℕ) → IsAsked bytes → 1 ≤ length bytes
        at_least_four [] (h, (lawful, same), kind) = absurd (omega (arith, ap length same))
        at_least_four (b ∷ bytes) asked = omega arith
