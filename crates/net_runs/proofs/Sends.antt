-- Packets are put in at the node that holds their destination, each moved at once: what they join to is told.
use Rattle.std.{proofs.Common.{◌≡◌, ℕ, ◌+◌, ◌<◌, ◌≤◌, false, List, [], ◌∷◌, ◌++◌, length, Some, None, sym, refl, ap, ◌∙◌, subst, inl, inr, arith}, specs.List.{AllByRecursion}, proofs.lemmas.Bool.Decides.{eqb_tells}, proofs.lemmas.List.{append-nil, append_assoc, map-append}, proofs.lemmas.Option.{none-some}}
use Rattle.mctp_transport.{specs.PacketValues.{PacketValue, KeyValue, key_of, IsPacketValue, Spelled, packet_value_bytes}, specs.PacketValueLaws.{one_packet_value}, specs.Messages.{Joined}, specs.Histories.{Arrived, History, after, Comes}, specs.Hearing.{Answer, Whole, Hears}, proofs.SomeAnswers.{some_answer}, proofs.InOrder.{arrivals, comes_in_order}}
use Rattle.plan_values.{specs.declared.plan.Plan.{Plan}, specs.declared.certificate.Certificate.{Certificate}}
use Rattle.net_tables.{specs.Routing.{Holds}, specs.TwoPlans.{one_plan}}
use Rattle.mctp_routing.specs.declared.decision.Decision.TheVariants.{Here}
use Rattle.net_runs.{specs.States.{NetworkState, at_start, without_flight, with_input, with_packet, with_received, unit_of, slots, limit}, specs.Events.{Put, Move, Refusal, N01, N02, N03, N04, N05, N06, N07, PutIn, Entered, IsRefused, most_flights}, specs.Networks.{Step}, specs.Runs.{Turn, RunFrom, PutsIn}, specs.ExactMessages.{IsQuiet, Epoch, IsOfEpoch, TurnOfEpoch, IsTidyFrom, turns_of, IsTold}, proofs.Nexts.{new_flight, received_same}}

-- nothing is on its way, so many flights were made, and the node has been given these packets
pub record HasHeard (w : NetworkState) (n made : ℕ) (ps : List PacketValue) : Type 0 where
  pub none : (k : ℕ) → w.flight k ≡ None
  pub number : w.made ≡ made
  pub heard : w.history n ≡ arrivals ps

-- nothing has happened, so all is quiet
pub start_is_quiet : (plan : Plan) (cert : Certificate) (key : KeyValue) (d : ℕ) → IsQuiet plan (at_start plan cert) key d
start_is_quiet plan cert key d = record { no_flight = λ number f is. absurd (cc); not_open = λ n holds opened. opened }

module _ (plan : Plan) (n d : ℕ) (key : KeyValue) (epoch : Epoch) (there : n < length plan.nodes.items) (holds : Holds plan n d) where
  -- a packet that may be sent
  pub record IsSendable (p : PacketValue) : Type 0 where
    pub lawful : IsPacketValue (unit_of plan) p
    pub to : p.destination ≡ d
    pub of_key : key_of p ≡ key
    pub of_epoch : IsOfEpoch (unit_of plan) epoch key d p

  abbrev pub put_turn : NetworkState → PacketValue → Turn
  put_turn w p = record { event = Put n (packet_value_bytes p); outcome = PutIn (w.made + 1) n; after = with_packet w n p }

  abbrev pub moved_turn : NetworkState → PacketValue → Answer → Turn
  moved_turn w p answer = record {
    event = Move (w.made + 1) false;
    outcome = Entered (w.made + 1) n key answer;
    after = with_received (with_input (without_flight (with_packet w n p) (w.made + 1)) n (Arrived p)) n key answer;
  }

  module _ (w : NetworkState) (ps : List PacketValue) (made : ℕ) (stands : HasHeard w n made ps) (few : made < most_flights) (p : PacketValue) (sendable : IsSendable p) where
    spelled : Spelled (unit_of plan) p (packet_value_bytes p)
    spelled = (sendable.lawful, refl)

    may_put : (why : Refusal) → ¬ IsRefused (one_plan plan) w (Put n (packet_value_bytes p)) why
    may_put N01 refused = omega arith
    may_put N02 refused = refused p spelled
    may_put N03 refused = refused
    may_put N04 refused = refused
    may_put N05 refused = refused
    may_put N06 refused = omega (arith, stands.number)
    may_put N07 refused = refused

    pub puts : Step (one_plan plan) w (Put n (packet_value_bytes p)) (PutIn (w.made + 1) n) (with_packet w n p)
    puts = (may_put, (p, spelled, refl, refl, refl))

    put_there : (with_packet w n p).flight (w.made + 1) ≡ Some (new_flight n p)
    put_there = elim (eqb_tells (w.made + 1) (w.made + 1)) [ inl same ↦ rw same.0 refl | inr other ↦ absurd (other.1 refl) ]

    may_move : (why : Refusal) → ¬ IsRefused (one_plan plan) (with_packet w n p) (Move (w.made + 1) false) why
    may_move N01 refused = refused
    may_move N02 refused = refused
    may_move N03 refused = none-some (new_flight n p) (sym refused ∙ put_there)
    may_move N04 refused = refused
    may_move N05 refused = refused
    may_move N06 refused = omega arith
    may_move N07 refused = refused

    pub moves : (answer : Answer) → Hears slots limit (w.history n) p answer
        → Step (one_plan plan) (with_packet w n p) (Move (w.made + 1) false) (Entered (w.made + 1) n key answer) (moved_turn w p answer).after
    moves answer hears =
        let H : ℕ → Type 0 = λ e. Holds plan n e in
        (may_move, (new_flight n p, put_there, (Here, subst H (sym sendable.to) holds, (refl, refl, sym sendable.of_key, hears, refl))))

    pub has_heard : (answer : Answer) → HasHeard (moved_turn w p answer).after n (made + 1) (ps ++ p ∷ [])
    has_heard answer =
        let v : NetworkState = with_input (without_flight (with_packet w n p) (w.made + 1)) n (Arrived p) in
        let same = received_same v n key answer in
        record {
          none = λ k. ap (λ flight. flight k) same.flight ∙ gone k;
          number = same.made ∙ ap (λ m. m + 1) stands.number;
          heard = ap (λ history. history n) same.history ∙ given ∙ ap (λ h. after h (Arrived p)) stands.heard ∙ sym (map-append (λ (q : PacketValue). Arrived q) ps (p ∷ []));
        }
      where
        gone : (k : ℕ) → (without_flight (with_packet w n p) (w.made + 1)).flight k ≡ None
        gone k = elim (eqb_tells k (w.made + 1)) [ inl same ↦ rw same.0 refl | inr other ↦ rw other.0 (stands.none k) ]

        given : (with_input (without_flight (with_packet w n p) (w.made + 1)) n (Arrived p)).history n ≡ after (w.history n) (Arrived p)
        given = elim (eqb_tells n n) [ inl same ↦ rw same.0 refl | inr other ↦ absurd (other.1 refl) ]

    -- what is put in is of the epoch
    put_is_tidy : (q : PacketValue) → PutsIn plan (put_turn w p) q → key_of q ≡ key → q.destination ≡ d → IsOfEpoch (unit_of plan) epoch key d q
    put_is_tidy q put mine to =
        let P : PacketValue → Type 0 = IsOfEpoch (unit_of plan) epoch key d in
        subst P (sym (one_packet_value (unit_of plan) q p put.0 sendable.lawful (sym put.1))) sendable.of_epoch

  -- the packets are sent, and then the last, with which the message is told
  pub record IsSent (w : NetworkState) (whole : List ℕ) : Type 0 where
    pub earlier : List TurnOfEpoch
    pub turn : Turn
    pub number : ℕ
    pub run : RunFrom (one_plan plan) w (turns_of (earlier ++ (turn, epoch) ∷ []))
    pub tidy : IsTidyFrom (unit_of plan) plan key d w epoch (earlier ++ (turn, epoch) ∷ [])
    pub told : turn.outcome ≡ Entered number n key (Whole whole)

  send : (w : NetworkState) (ps rest : List PacketValue) (made : ℕ) (p : PacketValue) (whole : List ℕ) → HasHeard w n made ps → made + length rest < most_flights
      → AllByRecursion IsSendable rest → IsSendable p → Comes slots limit (after (arrivals (ps ++ rest)) (Arrived p)) whole → IsSent w whole
  send w ps [] made p whole stands few all sendable comes =
      let here : w.history n ≡ arrivals (ps ++ []) = stands.heard ∙ ap arrivals (sym (append-nil ps)) in
      let H : History → Type 0 = λ h. Hears slots limit h p (Whole whole) in
      let hears = subst H (sym here) comes in
      record {
        earlier = (put_turn w p, epoch) ∷ [];
        turn = moved_turn w p (Whole whole);
        number = w.made + 1;
        run = (puts w ps made stands (omega arith) p sendable, (moves w ps made stands (omega arith) p sendable (Whole whole) hears, tt));
        tidy = (inl refl, put_is_tidy w ps made stands (omega arith) p sendable, (inl refl, (λ q put. absurd put), tt));
        told = refl;
      }
  send w ps (r ∷ rest) made p whole stands few all sendable comes =
      let heard = some_answer slots limit (w.history n) r in
      let answer = heard.0 in
      let C : List PacketValue → Type 0 = λ qs. Comes slots limit (after (arrivals qs) (Arrived p)) whole in
      let then_heard = has_heard w ps made stands (omega arith) r all.0 answer in
      let sent =
      send (moved_turn w r answer).after (ps ++ r ∷ []) rest (made + 1) p whole then_heard (omega arith) all.1 sendable
      (subst C (sym (append_assoc ps (r ∷ []) rest)) comes) in
      record {
        earlier = (put_turn w r, epoch) ∷ (moved_turn w r answer, epoch) ∷ sent.earlier;
        turn = sent.turn;
        number = sent.number;
        run = (puts w ps made stands (omega arith) r all.0, (moves w ps made stands (omega arith) r all.0 answer heard.1.hears, sent.run));
        tidy = (inl refl, put_is_tidy w ps made stands (omega arith) r all.0, (inl refl, (λ q put. absurd put), sent.tidy));
        told = sent.told;
      }

  -- packets that join to a message, sent from the start on
  pub sent_is_told : (cert : Certificate) (ps : List PacketValue) (p : PacketValue) (whole : List ℕ) → length ps < most_flights → AllByRecursion IsSendable ps → IsSendable p
      → Joined (ps ++ p ∷ []) whole → length whole ≤ limit → IsTold (unit_of plan) plan cert key d epoch whole
  sent_is_told cert ps p whole few all sendable joined fits =
      let sent = send (at_start plan cert) [] ps 0 p whole (record { none = λ k. refl; number = refl; heard = refl }) (omega arith) all sendable (comes_in_order slots limit ps p whole (omega arith) joined fits) in
      record {
        earlier = sent.earlier;
        turn = sent.turn;
        number = sent.number;
        n = n;
        quiet = start_is_quiet plan cert key d;
        run = sent.run;
        tidy = sent.tidy;
        holds = holds;
        told = sent.told;
      }
