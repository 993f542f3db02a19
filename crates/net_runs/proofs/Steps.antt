-- Whatever the event, some step is there: the network is never stuck.
use Rattle.std.{proofs.Common.{List, ◌≡◌, ℕ, ◌+◌, ◌-◌, ◌<◌, ◌≤◌, [], ◌∷◌, sym, ap, ◌∙◌, subst, Bool, true, false, Option, Some, None, refl, arith, inl, inr, length}, specs.Prelude.{◌⊎◌, All}, proofs.lemmas.List.Elements.{All-head}, proofs.lemmas.Bool.{cases_lt}, proofs.lemmas.Option.{slice_get_cases}}
use Rattle.mctp_transport.{specs.PacketValues.{PacketValue, KeyValue, key_of, IsAssignable, Spelled}, specs.Histories.{Arrived, TimeUp}, specs.Cutting.{ArePacketsOf}, specs.PacketsLeft.{cut}, proofs.PacketLists.{all_packets}, proofs.SomeAnswers.{some_answer, open_or_not}, proofs.Spellings.{spelled_or_not}}
use Rattle.plan_values.{specs.declared.plan.Plan.{Plan}, specs.declared.nodes.Node.{Node}, specs.declared.nodes.Row.{Row}, specs.declared.nodes.Kind.TheVariants.{Bridge, Endpoint}}
use Rattle.net_runs.{proofs.Units.{least_unit}, specs.Termini.{TerminusState, WaitingMessage, AreBytes, HoldsBytes}, specs.States.{NetworkState, Flight, destination, with_flight, without_flight, with_made, with_input, with_terminus, with_packet, with_packets, with_received, with_switched, unit_of, slots, limit, rows_now}, specs.Events.{EventValue, Put, Move, Lose, Expire, AnswerAt, Switch, Refusal, N01, N02, N03, N04, N05, N06, N07, OutcomeValue, PutIn, Moved, Entered, Stopped, Lost, Expired, Answered, Silent, Switched, Refused, IsRefused, named_node, named_flight, asked_node, switched_node, bytes_put, numbers_needed, refusal_number, most_flights}, specs.Networks.{IsDecided, Moves, answer_key, Happens, HasStep}, proofs.OneOutcomes.{refusal_of, numbered}}
use Rattle.net_tables.{specs.Routing.{Holds, IsBridge, node_at, eid_of, NamesFor}, specs.TwoPlans.{Tables}, proofs.TableLaws.{routed, named}, proofs.RowSearches.{is_or_not, one_or_none}}
use Rattle.mctp_routing.{specs.declared.decision.Decision.{Decision}, specs.declared.decision.ForwardFault.TheVariants.{Unassignable, NoBridge, NoRow}, specs.declared.decision.Decision.TheVariants.{Here, Drop, Forward}}
use Rattle.pdr_repository.{specs.Answers.{Answers}, proofs.SomeAnswers.{SomeAnswer, some_answering}, proofs.Deciding.{OrNot, both_or_not, either_or_not, less_or_not, at_most_or_not, some_and_or_not, none_or_not, empty_or_not, same_or_not}}

number_range : (why : Refusal) → (1 ≤ refusal_number why) × (refusal_number why ≤ 7)
number_range N01 = (omega arith, omega arith)
number_range N02 = (omega arith, omega arith)
number_range N03 = (omega arith, omega arith)
number_range N04 = (omega arith, omega arith)
number_range N05 = (omega arith, omega arith)
number_range N06 = (omega arith, omega arith)
number_range N07 = (omega arith, omega arith)

abbrev NoneBelow : (Refusal → Type 0) → ℕ → Type 0
NoneBelow P n = (other : Refusal) → refusal_number other < n → ¬ P other

one_more_below : (P : Refusal → Type 0) (why : Refusal) → NoneBelow P (refusal_number why) → ¬ P why → NoneBelow P (refusal_number why + 1)
one_more_below P why below not other lt = elim (cases_lt (refusal_number other) (refusal_number why)) [
  | inl earlier ↦ below other earlier
  | inr from ↦
      let N : Refusal → Type 0 = λ r. ¬ P r in
      let number : refusal_number why ≡ refusal_number other = omega arith in
      subst N (sym (numbered why) ∙ ap refusal_of number ∙ numbered other) not
]

-- where each refusal applies or not, one is the least that applies, or none applies
least_or_none : (P : Refusal → Type 0) → ((why : Refusal) → OrNot (P why)) → ((why : Refusal) × P why × NoneBelow P (refusal_number why)) ⊎ ((why : Refusal) → ¬ P why)
least_or_none P test =
    test_at N01 (λ other lt. let h = number_range other in absurd (omega arith))
    (λ a. test_at N02 a
    (λ b. test_at N03 b
    (λ c. test_at N04 c
    (λ d. test_at N05 d
    (λ e. test_at N06 e
    (λ f. test_at N07 f
    (λ g. inr (λ why. let h = number_range why in g why (omega arith)))))))))
  where
    test_at : (why : Refusal) → NoneBelow P (refusal_number why)
        → (NoneBelow P (refusal_number why + 1) → ((other : Refusal) × P other × NoneBelow P (refusal_number other)) ⊎ ((other : Refusal) → ¬ P other))
        → ((other : Refusal) × P other × NoneBelow P (refusal_number other)) ⊎ ((other : Refusal) → ¬ P other)
    test_at why below rest = elim (test why) [ inl is ↦ inl (why, is, below) | inr not ↦ rest (one_more_below P why below not) ]

pub true_or_not : (b : Bool) → OrNot (b ≡ true)
true_or_not true = inl refl
true_or_not false = inr (λ e. cc)

no_packet_or_not : (unit : ℕ) (bytes : List ℕ) → OrNot ((p : PacketValue) → ¬ Spelled unit p bytes)
no_packet_or_not unit bytes = elim (spelled_or_not unit bytes) [ inl (p, is) ↦ inr (λ none. none p is) | inr none ↦ inl none ]

refused_or_not : (tables : Tables) (w : NetworkState) (event : EventValue) (why : Refusal) → OrNot (IsRefused tables w event why)
refused_or_not tables w event N01 = some_and_or_not (named_node event) _ (λ node. at_most_or_not (length tables.plan.nodes.items) node)
refused_or_not tables w event N02 = some_and_or_not (bytes_put event) _ (no_packet_or_not (unit_of tables.plan))
refused_or_not tables w event N03 = some_and_or_not (named_flight event) _ (λ number. none_or_not (w.flight number))
refused_or_not tables w event N04 = some_and_or_not (asked_node event) _ (λ node. none_or_not (w.terminus node))
refused_or_not tables w event N05 = some_and_or_not (asked_node event) _ (λ node. some_and_or_not (w.terminus node) _ (λ t. empty_or_not t.waiting))
refused_or_not tables w event N06 = less_or_not (most_flights - w.made) (numbers_needed event)
refused_or_not tables w event N07 =
    some_and_or_not (switched_node event) _ (λ node. either_or_not _ _ (none_or_not tables.after) (true_or_not (w.switched node)))

pub holds_or_not : (plan : Plan) (n e : ℕ) → OrNot (Holds plan n e)
holds_or_not plan n e = is_or_not (eid_of plan n) e

names_or_not : (rows : List Row) (e : ℕ) → OrNot ((m : ℕ) × NamesFor rows e m)
names_or_not rows e = elim (one_or_none rows e) [
  | inl (r, row, at, covers) ↦ inl (row.next, (r, row, at, covers, refl))
  | inr none ↦ inr (λ (m, (r, row, at, covers, next)). none r row at covers)
]

bridge_or_not : (plan : Plan) (n : ℕ) → OrNot (IsBridge plan n)
bridge_or_not plan n = by (node_at plan n) refl
  where
    by : (o : Option Node) → node_at plan n ≡ o → OrNot (IsBridge plan n)
    by None is = rw is (inr (λ e. cc))
    by (Some node) is = kind node.kind refl
      where
        kind : (k : _) → node.kind ≡ k → OrNot (IsBridge plan n)
        kind Bridge same = rw (is, same) (inl refl)
        kind Endpoint same = rw (is, same) (inr (λ e. cc))

assignable_or_not : (e : ℕ) → OrNot (IsAssignable e)
assignable_or_not e = both_or_not _ _ (at_most_or_not 8 e) (at_most_or_not e 254)

-- some decision is taken
some_decision : (plan : Plan) (rows : List Row) (f : Flight) → (decision : Decision) × IsDecided plan rows f decision
some_decision plan rows f = elim (holds_or_not plan f.node (destination f)) [
  | inl here ↦ (Here, here)
  | inr away ↦ elim (assignable_or_not (destination f)) [
    | inr not ↦ (Drop Unassignable, (away, not))
    | inl may ↦ elim (either_or_not _ _ (bridge_or_not plan f.node) (same_or_not f.hops 0)) [
      | inr no_bridge ↦ (Drop NoBridge, (away, may, no_bridge))
      | inl goes ↦ elim (names_or_not rows (destination f)) [
        | inl (next, row) ↦
            let h = routed rows (destination f) next row in
            (Forward h.0, (away, may, goes, h.1))
        | inr none ↦ (Drop NoRow, (away, may, goes, λ hop routes. none (hop.next, named rows (destination f) hop routes)))
      ]
    ]
  ]
]

-- what comes of a move, and the network then; no move is told as refused
pub record SomeMove (tables : Tables) (w : NetworkState) (number : ℕ) (f : Flight) : Type 0 where
  pub outcome : OutcomeValue
  pub new : NetworkState
  pub moves : Moves tables w number f outcome new

some_move : (tables : Tables) (w : NetworkState) (number : ℕ) (f : Flight) → SomeMove tables w number f
some_move tables w number f = by (some_decision tables.plan (rows_now tables w f.node) f)
  where
    by : (decision : Decision) × IsDecided tables.plan (rows_now tables w f.node) f decision → SomeMove tables w number f
    by (Here, holds) =
        let heard = some_answer slots limit (w.history f.node) f.packet in
        record {
          outcome = Entered number f.node (key_of f.packet) heard.0;
          new = with_received (with_input w f.node (Arrived f.packet)) f.node (key_of f.packet) heard.0;
          moves = (Here, holds, (refl, refl, refl, heard.1.hears, refl));
        }
    by (Drop why, decided) = record { outcome = Stopped number why; new = w; moves = (Drop why, decided, (refl, refl, refl)) }
    by (Forward hop, decided) = record {
      outcome = Moved number hop.next (f.hops + 1);
      new = with_flight w number (record f { node = hop.next; hops = f.hops + 1 });
      moves = (Forward hop, decided, (refl, refl, refl, refl));
    }

-- an event that isn't refused happens
happens_so : (tables : Tables) (w : NetworkState) (event : EventValue) (outcome : OutcomeValue) (new : NetworkState)
    → ((why : Refusal) → ¬ IsRefused tables w event why) → Happens tables w event outcome new → HasStep tables w event
happens_so tables w event (Refused why) new may happens = absurd (no_refusal event happens)
  where
    no_refusal : (event : EventValue) → Happens tables w event (Refused why) new → ⊥
    no_refusal (Put node bytes) h = h
    no_refusal (Move number false) (f, stands, moves) = moves.2
    no_refusal (Move number true) (f, stands, moves) = moves.2
    no_refusal (Lose number) h = h
    no_refusal (Expire node key) h = h
    no_refusal (Switch node) h = h
    no_refusal (AnswerAt node) (t, oldest, rest, None, tid, stands, waits, answers, done) = done
    no_refusal (AnswerAt node) (t, oldest, rest, Some answer, tid, stands, waits, answers, done) = done
happens_so tables w event outcome new may happens = (outcome, new, (may, happens))

-- a node of the tables holds an EID
-- a node of the plan holds an EID
pub holds_some : (plan : Plan) (n : ℕ) → ¬ (length plan.nodes.items ≤ n) → (e : ℕ) × Holds plan n e
holds_some plan n within = elim (slice_get_cases plan.nodes.items n).1 [
  | inl h ↦ (h.0.eid.value, rw h.2 refl)
  | inr h ↦ absurd (within (omega (arith, h.0)))
]

-- the packets of an answer
pub some_packets : (plan : Plan) (answer : List ℕ) (destination : ℕ) (key : KeyValue) → (ps : List PacketValue) × ArePacketsOf (unit_of plan) answer destination key 0 ps
some_packets plan answer destination key =
    let f : PacketValue = record {
      reserved = 0;
      destination = destination;
      source = key.source;
      som = true;
      eom = false;
      number = 0;
      owner = key.owner;
      tag = key.tag;
      payload = answer;
    } in
    (cut (unit_of plan) (length answer) f, all_packets (unit_of plan) f (omega (arith, least_unit plan)) (omega arith) refl refl)

-- the oldest message that waits at a terminus is answered, or gets no answer
replies : (tables : Tables) (w : NetworkState) (node : ℕ) (t : TerminusState) (oldest : WaitingMessage) (rest : List WaitingMessage) → w.terminus node ≡ Some t
    → t.waiting ≡ oldest ∷ rest → HoldsBytes t → ((why : Refusal) → ¬ IsRefused tables w (AnswerAt node) why) → HasStep tables w (AnswerAt node)
replies tables w node t oldest rest is waits bytes may =
    let W : List WaitingMessage → Type 0 = λ ms. All (λ m. AreBytes m.bytes) ms in
    by (some_answering t.tid t.records oldest.bytes bytes.0 (All-head (λ m. AreBytes m.bytes) oldest rest (subst W waits bytes.1)))
  where
    by : SomeAnswer t.tid t.records oldest.bytes → HasStep tables w (AnswerAt node)
    by s = told s.answer s.answers
      where
        told : (answer : Option (List ℕ)) → Answers t.tid t.records oldest.bytes answer s.tid_after → HasStep tables w (AnswerAt node)
        told None answers = (
          Silent node,
          with_terminus w node (Some (record t { tid = s.tid_after; waiting = rest })),
          (may, (t, oldest, rest, None, s.tid_after, is, waits, answers, (refl, refl))),
        )
        told (Some answer) answers =
            let v : NetworkState = with_terminus w node (Some (record t { tid = s.tid_after; waiting = rest })) in
            let eid = holds_some tables.plan node (may N01) in
            let packets = some_packets tables.plan answer oldest.key.source (answer_key eid.0 oldest.key) in (
              Answered node (v.made + 1) (v.made + length packets.0),
              with_packets v node packets.0,
              (may, (t, oldest, rest, Some answer, s.tid_after, is, waits, answers, (eid.0, packets.0, eid.1, packets.1, refl, refl, refl, refl))),
            )

-- some step is there
pub some_step : (tables : Tables) (w : NetworkState) (event : EventValue) → ((n : ℕ) (t : TerminusState) → w.terminus n ≡ Some t → HoldsBytes t) → HasStep tables w event
some_step tables w event bytes = elim (least_or_none (IsRefused tables w event) (refused_or_not tables w event)) [
  | inl (why, is, least) ↦ (Refused why, w, ((is, least), refl))
  | inr may ↦ happens event may
]
  where
    happens : (event : EventValue) → ((why : Refusal) → ¬ IsRefused tables w event why) → HasStep tables w event
    happens (Put node bytes) may = elim (spelled_or_not (unit_of tables.plan) bytes) [
      | inr none ↦ absurd (may N02 none)
      | inl (p, is) ↦ (
        PutIn (w.made + 1) node,
        with_packet w node p,
        (may, (p, is, refl, refl, refl)),
      )
    ]
    happens (Move number false) may = there (w.flight number) refl
      where
        there : (o : Option Flight) → w.flight number ≡ o → HasStep tables w (Move number false)
        there None is = absurd (may N03 is)
        there (Some f) is =
            let m = some_move tables (without_flight w number) number f in
            happens_so tables w (Move number false) m.outcome m.new may (f, is, m.moves)
    happens (Move number true) may = there (w.flight number) refl
      where
        there : (o : Option Flight) → w.flight number ≡ o → HasStep tables w (Move number true)
        there None is = absurd (may N03 is)
        there (Some f) is =
            let m = some_move tables (with_made w (w.made + 1)) (w.made + 1) f in
            happens_so tables w (Move number true) m.outcome m.new may (f, is, m.moves)
    happens (Lose number) may = (Lost number, without_flight w number, (may, (refl, refl)))
    happens (Expire node key) may =
        let opened = open_or_not slots limit (w.history node) key in
        (Expired node opened.0, with_input w node (TimeUp key), (may, (refl, opened.1, refl)))
    happens (Switch node) may = (Switched node, with_switched w node, (may, (refl, refl)))
    happens (AnswerAt node) may = there (w.terminus node) refl
      where
        there : (o : Option TerminusState) → w.terminus node ≡ o → HasStep tables w (AnswerAt node)
        there None is = absurd (may N04 is)
        there (Some t) is = first t.waiting refl
          where
            first : (messages : List WaitingMessage) → t.waiting ≡ messages → HasStep tables w (AnswerAt node)
            first [] none = absurd (may N05 (rw is none))
            first (oldest ∷ rest) waits = replies tables w node t oldest rest is waits (bytes node t is) may
