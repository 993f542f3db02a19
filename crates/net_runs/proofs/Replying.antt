-- A request that is on its way comes at its terminus, and the answer to it is put in.
use Rattle.std.{proofs.Common.{◌≡◌, ◌≢◌, ◌⊎◌, ℕ, ◌+◌, ◌<◌, ◌≤◌, true, false, List, [], ◌∷◌, length, Option, Some, None, Ok, Err, refl, sym, ap, ◌∙◌, subst, inl, inr, arith}, specs.Prelude.{All}, proofs.lemmas.Bool.{cases_order}, proofs.lemmas.Bool.Decides.{eqb_tells}, proofs.lemmas.Option.{none-some}}
use Rattle.mctp_transport.{specs.PacketValues.{PacketValue, KeyValue, key_of}, specs.Cutting.{ArePacketsOf}, specs.Histories.{History}, specs.Hearing.{Whole}, proofs.PacketLists.{packets_join}}
use Rattle.pldm_message.specs.Pdrs.{PartRequest, IsPartRequest, get_pdr_request_bytes, get_pdr_answer_bytes}
use Rattle.pdr_repository.{specs.Records.{Entry, IsLawful}, specs.Parts.{PartAnswer, AnswersPart}, specs.Answers.{Answers}, specs.Walkers.{asked_under, IsAnswerIn, AnswersWalker}, proofs.Meeting.{requests_are_answered}, proofs.AnswerBytes.{answer_is_bytes}, proofs.SomeAnswers.{EachByte, each_byte, records_of_bytes, SomeAnswer, some_answering}}
use Rattle.plan_values.specs.declared.certificate.Certificate.{Certificate}
use Rattle.net_tables.{specs.Routing.{Holds}, specs.Repositories.{records_by_place}, specs.TwoPlans.{Tables, HasRowAlways}, proofs.Elements.{holder_within}}
use Rattle.net_runs.{specs.Termini.{TerminusState, AreBytes, with_waiting}, specs.States.{NetworkState, with_terminus, with_packets, with_received, unit_of}, specs.Events.{Move, AnswerAt, Entered, Answered, Refusal, N01, N02, N03, N04, N05, N06, N07, IsRefused, most_flights}, specs.Networks.{Step, answer_key}, specs.Walkers.{WalkerValue, answering_key}, proofs.AtRest.{AreUnderWay, packets_made, packets_history, packets_under_way}, proofs.Bringing.{way_is_route}, proofs.ByteRuns.{are_bytes}, proofs.Nexts.{new_flight}, proofs.Ordered.{IsClosed, comes_last}, proofs.Reaching.{Reaches, reaches_on, network_turn}, proofs.Records.{packets_termini}, proofs.Replies.{answer_is_short}, proofs.Sent.{message_packets}, proofs.Travels.{Now, enters_there}, proofs.UnderWay.{answer_under}, proofs.WalkedGoings.{request_is_bytes}}
use Rattle.net_tables.specs.Lawful as ways

module _ (tables : Tables) (cert : Certificate) (lawful : ways.IsLawful tables cert) (walkers : ℕ → Option WalkerValue) (begun : ℕ) where
  -- what waits at the terminus then
  waits_there : (w : NetworkState) (n : ℕ) (key : KeyValue) (request : List ℕ) (t : TerminusState) → w.terminus n ≡ Some t → key.owner ≡ true
      → (with_received w n key (Whole request)).terminus n ≡ Some (with_waiting t (record { key = key; bytes = request }))
  waits_there w n key request t is owner = elim (eqb_tells n n) [ inl same ↦ rw (owner, same.0, is) refl | inr other ↦ absurd (other.1 refl) ]

  waits_elsewhere : (w : NetworkState) (n m : ℕ) (key : KeyValue) (request : List ℕ) → key.owner ≡ true → m ≢ n → (with_received w n key (Whole request)).terminus m ≡ w.terminus m
  waits_elsewhere w n m key request owner other = elim (eqb_tells m n) [ inl same ↦ absurd (other same.1) | inr apart ↦ rw (owner, apart.0) refl ]

  module _ (n eid from : ℕ) (key : KeyValue) (request : List ℕ) (holds : Holds tables.plan n eid) (way : Holds tables.plan from eid ⊎ HasRowAlways tables from eid) (owner : key.owner ≡ true)
      (some : 0 < length request) (short : length request ≤ (unit_of tables.plan)) where
    -- the request has come, and waits
    pub record HasAsked (w : NetworkState) (t : TerminusState) : Type 0 where
      pub new : NetworkState
      pub run : Reaches tables (Now tables cert lawful walkers begun w) (Now tables cert lawful walkers begun new)
      pub none : (k : ℕ) → new.flight k ≡ None
      pub closed : (m : ℕ) → IsClosed (new.history m)
      pub made : new.made ≡ w.made
      pub there : new.terminus n ≡ Some (with_waiting t (record { key = key; bytes = request }))
      pub elsewhere : (m : ℕ) → m ≢ n → new.terminus m ≡ w.terminus m

    pub comes_there : (w : NetworkState) (k : ℕ) (p : PacketValue) (t : TerminusState) → ArePacketsOf (unit_of tables.plan) request eid key 0 (p ∷ []) → w.flight k ≡ Some (new_flight from p)
        → ((j : ℕ) → j ≢ k → w.flight j ≡ None) → ((m : ℕ) → IsClosed (w.history m)) → w.terminus n ≡ Some t → HasAsked w t
    comes_there w k p t are stands others closed is =
        let mine = are.of_key 0 p refl in
        let to = are.addressed 0 p refl in
        let H : ℕ → Type 0 = λ e. Holds tables.plan n e in
        let joined = packets_join (unit_of tables.plan) request eid key 0 (p ∷ []) some are in
        let came = comes_last request key (omega arith) (w.history n) [] p joined mine (closed n) in
        let e = enters_there tables cert lawful walkers begun w k (new_flight from p) n (Whole request) stands (subst H (sym to) holds)
        (way_is_route tables cert lawful walkers begun from eid p to way) came.0 in
        let T : KeyValue → Type 0 = λ q. e.new.terminus ≡ (with_received w n q (Whole request)).terminus in
        let termini = subst T mine e.terminus in
        let C : History → Type 0 = IsClosed in
        let owned : key_of p ≡ key = mine in
        let turn = network_turn tables (Now tables cert lawful walkers begun e.before) (Move k false) (Entered k n (key_of p) (Whole request)) e.new (λ node bytes same. cc) e.step
        (λ number walker said there (flight, told). no_owner (key_of p) (answering_key walker) k flight n walker.node request said told (ap (λ (q : KeyValue). q.owner) owned ∙ owner) refl) in
        record {
          new = e.new;
          run = reaches_on tables (Now tables cert lawful walkers begun w) (Now tables cert lawful walkers begun e.before) (Now tables cert lawful walkers begun e.new) e.run turn;
          none = λ j. elim (cases_order j k) [
            | inl same ↦ ap e.new.flight same ∙ e.gone
            | inr (inl less) ↦ e.flights j (λ same. omega arith) ∙ others j (λ same. omega arith)
            | inr (inr more) ↦ e.flights j (λ same. omega arith) ∙ others j (λ same. omega arith)
          ];
          closed = λ m. elim (cases_order m n) [
            | inl same ↦ subst C (sym (ap e.new.history same ∙ e.heard)) came.1
            | inr (inl less) ↦ subst C (sym (e.elsewhere m (λ same. omega arith))) (closed m)
            | inr (inr more) ↦ subst C (sym (e.elsewhere m (λ same. omega arith))) (closed m)
          ];
          made = e.made;
          there = ap (λ terminus. terminus n) termini ∙ waits_there w n key request t is owner;
          elsewhere = λ m other. ap (λ terminus. terminus m) termini ∙ waits_elsewhere w n m key request owner other;
        }
      where
        no_owner : (a b : KeyValue) (j k m o : ℕ) (xs ys : List ℕ) → Entered j m a (Whole xs) ≡ Entered k o b (Whole ys) → a.owner ≡ true → b.owner ≡ false → ⊥
        no_owner a b j k m o xs ys e owned plain = let same : a ≡ b = cc in let f : true ≡ false = sym owned ∙ ap (λ (q : KeyValue). q.owner) same ∙ plain in cc

  -- the answer has been put in
  pub record HasReplied (n eid own : ℕ) (key : KeyValue) (id : ℕ) (r : PartRequest) (w : NetworkState) (t : TerminusState) : Type 0 where
    pub new : NetworkState
    pub run : Reaches tables (Now tables cert lawful walkers begun w) (Now tables cert lawful walkers begun new)
    pub outcome : PartAnswer
    pub message : List ℕ
    pub answered : AnswersPart (records_by_place tables.plan cert n) r outcome
    pub spelled : IsAnswerIn message (answer_under id outcome)
    pub bytes : EachByte message
    pub few : length message ≤ r.count + 17
    pub some : 0 < length message
    pub packets : List PacketValue
    pub are : ArePacketsOf (unit_of tables.plan) message own (answer_key eid key) 0 packets
    pub base : ℕ
    pub under : AreUnderWay new base n packets
    pub closed : (m : ℕ) → IsClosed (new.history m)
    pub made : new.made ≡ w.made + length packets
    pub state : TerminusState
    pub there : new.terminus n ≡ Some state
    pub rests : state.waiting ≡ []
    pub records : state.records ≡ t.records
    pub tid : state.tid < 256
    pub elsewhere : (m : ℕ) → m ≢ n → new.terminus m ≡ w.terminus m

  pub replies : (n eid own : ℕ) (key : KeyValue) (id : ℕ) (r : PartRequest) (w : NetworkState) (t : TerminusState) → Holds tables.plan n eid → key.source ≡ own → IsLawful (records_by_place tables.plan cert n)
      → All (λ e. AreBytes e.bytes) (records_by_place tables.plan cert n) → id < 32 → IsPartRequest r → ((k : ℕ) → w.flight k ≡ None) → ((m : ℕ) → IsClosed (w.history m))
      → w.made + 64 ≤ most_flights → w.terminus n ≡ Some t → t.waiting ≡ record { key = key; bytes = get_pdr_request_bytes (asked_under id r) } ∷ []
      → t.records ≡ records_by_place tables.plan cert n → t.tid < 256 → HasReplied n eid own key id r w t
  replies n eid own key id r w t holds source right_records all small fits none closed left is waits same tid =
      by (some_answering t.tid t.records (get_pdr_request_bytes (asked_under id r)) bytes_there asked_bytes)
    where
      bytes_there : All (λ e. AreBytes e.bytes) t.records
      bytes_there = let R : List Entry → Type 0 = λ es. All (λ e. AreBytes e.bytes) es in subst R (sym same) all

      asked_bytes : AreBytes (get_pdr_request_bytes (asked_under id r))
      asked_bytes = are_bytes (get_pdr_request_bytes (asked_under id r)) (request_is_bytes id r small fits)

      may : (why : Refusal) → ¬ IsRefused tables w (AnswerAt n) why
      may N01 refused = let inside = holder_within tables.plan n eid holds in omega arith
      may N02 refused = refused
      may N03 refused = refused
      may N04 refused = none-some t (sym refused ∙ is)
      may N05 refused = let e : t.waiting ≡ [] = rw is at refused in omega (arith, ap length (sym waits ∙ e))
      may N06 refused = omega arith
      may N07 refused = refused

      some_bytes : (a : PartAnswer) → 0 < length (get_pdr_answer_bytes (answer_under id a))
      some_bytes (Ok p) = omega arith
      some_bytes (Err code) = omega arith

      by : SomeAnswer t.tid t.records (get_pdr_request_bytes (asked_under id r)) → HasReplied n eid own key id r w t
      by s =
          let A : List Entry → Type 0 = λ es. Answers t.tid es (get_pdr_request_bytes (asked_under id r)) s.answer s.tid_after in
          let a : AnswersWalker (records_by_place tables.plan cert n) id r s.answer =
          requests_are_answered t.tid s.tid_after id (records_by_place tables.plan cert n) r s.answer right_records fits small (subst A same s.answers) in
          let O : Option (List ℕ) → Type 0 = λ o. Answers t.tid t.records (get_pdr_request_bytes (asked_under id r)) o s.tid_after in
          let answers = subst O a.is s.answers in
          let b = answer_is_bytes t.tid t.records (get_pdr_request_bytes (asked_under id r)) (Some a.bytes) s.tid_after tid (records_of_bytes t.records bytes_there)
          (each_byte (get_pdr_request_bytes (asked_under id r)) asked_bytes) answers in
          put_in s a answers (b.0 a.bytes refl) b.1 (message_packets tables.plan a.bytes key.source (answer_key eid key))
        where
          put_in : (s : SomeAnswer t.tid t.records (get_pdr_request_bytes (asked_under id r))) (a : AnswersWalker (records_by_place tables.plan cert n) id r s.answer)
              → Answers t.tid t.records (get_pdr_request_bytes (asked_under id r)) (Some a.bytes) s.tid_after → EachByte a.bytes → s.tid_after < 256
              → (ps : List PacketValue) × ArePacketsOf (unit_of tables.plan) a.bytes key.source (answer_key eid key) 0 ps → HasReplied n eid own key id r w t
          put_in s a answers content low (ps, are) =
              let after_it : TerminusState = record t { tid = s.tid_after; waiting = [] } in
              let v : NetworkState = with_terminus w n (Some after_it) in
              let step : Step tables w (AnswerAt n) (Answered n (v.made + 1) (v.made + length ps)) (with_packets v n ps) =
              (may, (t, record { key = key; bytes = get_pdr_request_bytes (asked_under id r) }, [], Some a.bytes, s.tid_after, is, waits, answers, (eid, ps, holds, are, refl, refl, refl, refl))) in
              let long = ap length a.spelled.1 in
              let C : (ℕ → History) → Type 0 = λ histories. (m : ℕ) → IsClosed (histories m) in
              let P : ℕ → Type 0 = λ d. ArePacketsOf (unit_of tables.plan) a.bytes d (answer_key eid key) 0 ps in
              record {
                new = with_packets v n ps;
                run = network_turn tables (Now tables cert lawful walkers begun w) (AnswerAt n) (Answered n (v.made + 1) (v.made + length ps)) (with_packets v n ps) (λ node bytes same. cc) step
                    (λ number walker said there (flight, told). absurd (cc));
                outcome = a.outcome;
                message = a.bytes;
                answered = a.answered;
                spelled = a.spelled;
                bytes = content;
                few = omega (arith, long, answer_is_short id (records_by_place tables.plan cert n) r a.outcome a.answered);
                some = omega (arith, long, some_bytes a.outcome);
                packets = ps;
                are = subst P source are;
                base = v.made;
                under = packets_under_way v n ps none;
                closed = subst C (sym (packets_history v n ps)) closed;
                made = packets_made v n ps;
                state = after_it;
                there = ap (λ terminus. terminus n) (packets_termini v n ps) ∙ at_it;
                rests = refl;
                records = refl;
                tid = low;
                elsewhere = λ m other. ap (λ terminus. terminus m) (packets_termini v n ps) ∙ not_at_it m other;
              }
            where
              at_it : (with_terminus w n (Some (record t { tid = s.tid_after; waiting = [] }))).terminus n ≡ Some (record t { tid = s.tid_after; waiting = [] })
              at_it = elim (eqb_tells n n) [ inl same ↦ rw same.0 refl | inr other ↦ absurd (other.1 refl) ]

              not_at_it : (m : ℕ) → m ≢ n → (with_terminus w n (Some (record t { tid = s.tid_after; waiting = [] }))).terminus m ≡ w.terminus m
              not_at_it m other = elim (eqb_tells m n) [ inl same ↦ absurd (other same.1) | inr apart ↦ rw apart.0 refl ]
