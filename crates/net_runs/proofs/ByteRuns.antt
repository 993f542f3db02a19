-- Along a run in which bytes are put in, what the termini hold is bytes: so the run can go on.
use Rattle.std.{proofs.Common.{◌≡◌, ℕ, ◌+◌, ◌<◌, Bool, true, false, cond, List, [], ◌∷◌, ◌++◌, Option, Some, None, refl, sym, ◌∙◌, subst, inl, inr, arith}, specs.Prelude.{All, option_map}, specs.List.{AllByRecursion}, proofs.lemmas.Option.{same_Some}, proofs.lemmas.List.Elements.{All-head, All-tail, All-from_recursion, recursion_from_All}}
use Rattle.mctp_transport.{specs.PacketValues.{PacketValue, KeyValue, key_of}, specs.Messages.{payloads_of}, specs.Cutting.{ArePacketsOf}, specs.Histories.{Input, Arrived, TimeUp, History, EachArrival}, specs.Hearing.{Answer, Whole, Held, Dropped, Hears}, proofs.Arrivals.{EachArrival-append, EachArrival-last_of}, proofs.Collecting.{comes_from_such}, proofs.PacketLists.{joined_payloads}}
use Rattle.mctp_routing.specs.declared.decision.Decision.TheVariants.{Here, Drop, Forward}
use Rattle.plan_values.{specs.declared.certificate.Certificate.{Certificate}, specs.declared.terminus.PlannedTerminus.{PlannedTerminus}}
use Rattle.net_tables.{specs.Repositories.{terminus_of, records_by_place}, specs.TwoPlans.{Tables}}
use Rattle.net_runs.{specs.Termini.{TerminusState, WaitingMessage, AreBytes, HoldsBytes, with_waiting}, specs.States.{NetworkState, Flight, at_start, without_flight, with_made, with_input, with_terminus, with_packet, with_packets, with_received, with_switched, unit_of, slots, limit}, specs.Events.{EventValue, Put, Move, Lose, Expire, AnswerAt, Switch, OutcomeValue, PutIn, Moved, Entered, Stopped, Lost, Expired, Answered, Silent, Switched, Refused}, specs.Networks.{Step, Happens, Moves, answer_key}, specs.Runs.{Turn, RunFrom, after_all, reached}, specs.ByteRuns.{RecordsAreBytes, RunsGoOn}, proofs.Nexts.{IsNext, MayBeGiven, SameFlights, itself_is_within, without_is_within, made_is_within, within_is_next, input_is_next, moves_is_next, none_is_put, one_is_put, all_are_put, put_is_next}, proofs.Records.{with_terminus_keeps, mapped, packets_termini}, proofs.Steps.{some_step}}
use Rattle.pdr_repository.{specs.Answers.{Answers}, proofs.SomeAnswers.{EachByte, each_byte, records_of_bytes}, proofs.AnswerBytes.{bytes_append, answer_is_bytes}}

pub are_bytes : (bytes : List ℕ) → EachByte bytes → AreBytes bytes
are_bytes bytes all = All-from_recursion (λ b. b < 256) bytes all

-- a packet of bytes
abbrev IsOfBytes : PacketValue → Type 0
IsOfBytes p = EachByte p.payload

-- the parts of bytes are bytes
left_bytes : (xs ys : List ℕ) → EachByte (xs ++ ys) → EachByte xs × EachByte ys
left_bytes [] ys all = (tt, all)
left_bytes (x ∷ xs) ys all = let h = left_bytes xs ys all.1 in ((all.0, h.0), h.1)

packets_of_bytes : (ps : List PacketValue) → EachByte (payloads_of ps) → AllByRecursion IsOfBytes ps
packets_of_bytes [] all = tt
packets_of_bytes (p ∷ ps) all = let h = left_bytes p.payload (payloads_of ps) all in (h.0, packets_of_bytes ps h.1)

joined_bytes : (ps : List PacketValue) → AllByRecursion IsOfBytes ps → EachByte (payloads_of ps)
joined_bytes [] all = tt
joined_bytes (p ∷ ps) all = bytes_append p.payload (payloads_of ps) all.0 (joined_bytes ps all.1)

cut_bytes : (unit : ℕ) (answer : List ℕ) (d : ℕ) (key : KeyValue) (ps : List PacketValue) → ArePacketsOf unit answer d key 0 ps → EachByte answer → AllByRecursion IsOfBytes ps
cut_bytes unit answer d key ps are all = let E : List ℕ → Type 0 = EachByte in packets_of_bytes ps (subst E (are.cut.whole ∙ joined_payloads ps) all)

-- a terminus of bytes
pub record IsOfByteValues (t : TerminusState) : Type 0 where
  pub tid : t.tid < 256
  pub held : HoldsBytes t

-- all that the network holds is bytes
pub record IsByteNetwork (w : NetworkState) : Type 0 where
  pub flights : (number : ℕ) (f : Flight) → w.flight number ≡ Some f → IsOfBytes f.packet
  pub arrivals : (n : ℕ) → EachArrival IsOfBytes (w.history n)
  pub termini : (n : ℕ) (t : TerminusState) → w.terminus n ≡ Some t → IsOfByteValues t

-- the flights and what was given, along a step that puts in bytes
next_flights : (tables : Tables) (w new : NetworkState) → IsByteNetwork w → IsNext tables w IsOfBytes new → (number : ℕ) (f : Flight) → new.flight number ≡ Some f → IsOfBytes f.packet
next_flights tables w new bytes next number g is = elim (next.flights number g is) [
  | inl (older, there) ↦ bytes.flights older g there
  | inr changed ↦ let P : Flight → Type 0 = λ h. IsOfBytes h.packet in elim changed [
    | inl moved ↦ subst P (sym moved.is) (bytes.flights moved.there.0 moved.flight moved.there.1)
    | inr new ↦ subst P (sym new.is) new.put
  ]
]

given_bytes : (tables : Tables) (w : NetworkState) (n : ℕ) (i : Input) → IsByteNetwork w → MayBeGiven tables w n i → EachArrival IsOfBytes (i ∷ [])
given_bytes tables w n (Arrived p) bytes (holds, (f, (number, there), same)) = let P : PacketValue → Type 0 = IsOfBytes in (subst P same (bytes.flights number f there), tt)
given_bytes tables w n (TimeUp key) bytes may = tt

next_arrivals : (tables : Tables) (w new : NetworkState) → IsByteNetwork w → IsNext tables w IsOfBytes new → (n : ℕ) → EachArrival IsOfBytes (new.history n)
next_arrivals tables w new bytes next n =
    let E : History → Type 0 = EachArrival IsOfBytes in
    elim (next.given n) [
      | inl same ↦ subst E (sym same) (bytes.arrivals n)
      | inr (i, more, may) ↦ subst E (sym more) (EachArrival-append IsOfBytes (w.history n) (i ∷ []) (bytes.arrivals n) (given_bytes tables w n i bytes may))
    ]

-- what the termini hold
abbrev ByteTermini : NetworkState → Type 0
ByteTermini w = (n : ℕ) (t : TerminusState) → w.terminus n ≡ Some t → IsOfByteValues t

waiting_bytes : (t : TerminusState) (key : KeyValue) (message : List ℕ) → IsOfByteValues t → EachByte message → IsOfByteValues (with_waiting t (record { key = key; bytes = message }))
waiting_bytes t key message bytes all =
    let item : WaitingMessage = record { key = key; bytes = message } in
    let W : WaitingMessage → Type 0 = λ m. AreBytes m.bytes in
    record {
      tid = bytes.tid;
      held = (
        bytes.held.0,
        All-from_recursion W (t.waiting ++ item ∷ []) (appended t.waiting (recursion_from_All W t.waiting bytes.held.1)),
      );
    }
  where
    appended : (ms : List WaitingMessage) → AllByRecursion (λ m. AreBytes m.bytes) ms → AllByRecursion (λ m. AreBytes m.bytes) (ms ++ record { key = key; bytes = message } ∷ [])
    appended [] h = (are_bytes message all, tt)
    appended (m ∷ ms) h = (h.0, appended ms h.1)

received_bytes : (w : NetworkState) (node : ℕ) (key : KeyValue) (answer : Answer) → ByteTermini w → ((message : List ℕ) → answer ≡ Whole message → EachByte message)
    → ByteTermini (with_received w node key answer)
received_bytes w node key (Whole message) kept whole =
    let item : WaitingMessage = record { key = key; bytes = message } in
    let u : NetworkState = with_terminus w node (option_map (λ t. with_waiting t item) (w.terminus node)) in
    let P : ℕ → TerminusState → Type 0 = λ n t. IsOfByteValues t in
    pick key.owner u
    (with_terminus_keeps P w node (option_map (λ t. with_waiting t item) (w.terminus node)) kept (λ t is.
    let m = mapped (w.terminus node) item t is in
    let R : TerminusState → Type 0 = IsOfByteValues in
    subst R m.2 (waiting_bytes m.0 key message (kept node m.0 m.1) (whole message refl))))
  where
    pick : (b : Bool) (u : NetworkState) → ByteTermini u → ByteTermini (cond b u w)
    pick true u h = h
    pick false u h = kept
received_bytes w node key Held kept whole = kept
received_bytes w node key (Dropped why) kept whole = kept

module _ (tables : Tables) where
  -- what is heard whole is bytes
  pub whole_bytes : (h : History) (p : PacketValue) (answer : Answer) → EachArrival IsOfBytes h → IsOfBytes p → Hears slots limit h p answer → (message : List ℕ) → answer ≡ Whole message
      → EachByte message
  whole_bytes h p answer arrived new hears message is =
      let H : Answer → Type 0 = Hears slots limit h p in
      let (ps, joined, all) = comes_from_such IsOfBytes slots limit h p message (λ opened. EachArrival-last_of IsOfBytes h (key_of p) arrived) new (subst H is hears) in
      let E : List ℕ → Type 0 = EachByte in
      subst E (sym joined.whole) (joined_bytes ps all)

  moves_bytes : (w v : NetworkState) (k : ℕ) (f : Flight) (outcome : OutcomeValue) (new : NetworkState) → IsByteNetwork w → v.history ≡ w.history → v.terminus ≡ w.terminus
      → IsOfBytes f.packet → Moves tables v k f outcome new → ByteTermini new
  moves_bytes w v k f (Entered j node key answer) new bytes same held packet (Here, holds, (number, at, whose, hears, is)) =
      let P : NetworkState → Type 0 = ByteTermini in
      let T : (ℕ → Option TerminusState) → Type 0 = λ terminus. (n : ℕ) (t : TerminusState) → terminus n ≡ Some t → IsOfByteValues t in
      let H : (ℕ → History) → Type 0 = λ history. (n : ℕ) → EachArrival IsOfBytes (history n) in
      let arrived = subst H (sym same) bytes.arrivals in
      subst P (sym is)
      (received_bytes (with_input v f.node (Arrived f.packet)) f.node key answer (subst T (sym held) bytes.termini) (whole_bytes (v.history f.node) f.packet answer (arrived f.node) packet hears))
  moves_bytes w v k f (Stopped j told) new bytes same held packet (Drop why, decided, (number, said, is)) =
      let P : NetworkState → Type 0 = ByteTermini in
      let T : (ℕ → Option TerminusState) → Type 0 = λ terminus. (n : ℕ) (t : TerminusState) → terminus n ≡ Some t → IsOfByteValues t in
      subst P (sym is) (subst T (sym held) bytes.termini)
  moves_bytes w v k f (Moved j node hops) new bytes same held packet (Forward hop, decided, (number, at, more, is)) =
      let P : NetworkState → Type 0 = ByteTermini in
      let T : (ℕ → Option TerminusState) → Type 0 = λ terminus. (n : ℕ) (t : TerminusState) → terminus n ≡ Some t → IsOfByteValues t in
      subst P (sym is) (subst T (sym held) bytes.termini)
  moves_bytes w v k f _ new bytes same held packet (_, decided, done) = absurd done

  with_next : (w new : NetworkState) → IsByteNetwork w → IsNext tables w IsOfBytes new → ByteTermini new → IsByteNetwork new
  with_next w new bytes next termini = record { flights = next_flights tables w new bytes next; arrivals = next_arrivals tables w new bytes next; termini = termini }

  -- what an answer leaves at the terminus
  rest_bytes : (w : NetworkState) (node tid : ℕ) (t : TerminusState) (oldest : WaitingMessage) (rest : List WaitingMessage) → IsByteNetwork w → w.terminus node ≡ Some t
      → t.waiting ≡ oldest ∷ rest → tid < 256 → ByteTermini (with_terminus w node (Some (record t { tid = tid; waiting = rest })))
  rest_bytes w node tid t oldest rest bytes stands waits small =
      let P : ℕ → TerminusState → Type 0 = λ n x. IsOfByteValues x in
      let R : TerminusState → Type 0 = IsOfByteValues in
      let W : List WaitingMessage → Type 0 = λ ms. All (λ m. AreBytes m.bytes) ms in
      let held = (bytes.termini node t stands).held in
      let now : IsOfByteValues (record t { tid = tid; waiting = rest }) =
      record { tid = small; held = (held.0, All-tail (λ m. AreBytes m.bytes) oldest rest (subst W waits held.1)) } in
      with_terminus_keeps P w node (Some (record t { tid = tid; waiting = rest })) bytes.termini (λ x is. subst R (same_Some (record t { tid = tid; waiting = rest }) x is) now)

  -- what is answered
  answered : (w : NetworkState) (node : ℕ) (t : TerminusState) (oldest : WaitingMessage) (rest : List WaitingMessage) (answer : Option (List ℕ)) (tid : ℕ) → IsByteNetwork w
      → w.terminus node ≡ Some t → t.waiting ≡ oldest ∷ rest → Answers t.tid t.records oldest.bytes answer tid
      → ((said : List ℕ) → answer ≡ Some said → EachByte said) × (tid < 256)
  answered w node t oldest rest answer tid bytes stands waits answers =
      let W : List WaitingMessage → Type 0 = λ ms. All (λ m. AreBytes m.bytes) ms in
      let held = (bytes.termini node t stands).held in
      let request = each_byte oldest.bytes (All-head (λ m. AreBytes m.bytes) oldest rest (subst W waits held.1)) in
      answer_is_bytes t.tid t.records oldest.bytes answer tid (bytes.termini node t stands).tid (records_of_bytes t.records held.0) request answers

  happens_bytes : (w : NetworkState) (event : EventValue) (outcome : OutcomeValue) (new : NetworkState) → IsByteNetwork w
      → ((node : ℕ) (bytes : List ℕ) → event ≡ Put node bytes → AreBytes bytes) → Happens tables w event outcome new → IsByteNetwork new
  happens_bytes w (Put node put) (PutIn k at) new bytes puts (p, spelled, number, place, is) =
      let E : List ℕ → Type 0 = EachByte in
      let B : NetworkState → Type 0 = IsByteNetwork in
      let same : SameFlights w w = record { flight = refl; made = refl; history = refl } in
      let whole = subst E spelled.1 (each_byte put (puts node put refl)) in
      let packet : IsOfBytes p = whole.1.1.1.1 in
      subst B (sym is)
      (with_next w (with_packet w node p) bytes (put_is_next tables w IsOfBytes (with_packet w node p) (one_is_put tables w IsOfBytes w node p (none_is_put tables w IsOfBytes w same) packet)) bytes.termini)
  happens_bytes w (Move number false) outcome new bytes puts (f, stands, moves) =
      with_next w new bytes
      (moves_is_next tables w IsOfBytes (without_flight w number) number f outcome new (without_is_within w number) refl (number, stands) (λ numbered. numbered number f stands) moves)
      (moves_bytes w (without_flight w number) number f outcome new bytes refl refl (bytes.flights number f stands) moves)
  happens_bytes w (Move number true) outcome new bytes puts (f, stands, moves) =
      with_next w new bytes
      (moves_is_next tables w IsOfBytes (with_made w (w.made + 1)) (w.made + 1) f outcome new (made_is_within w) refl (number, stands) (λ numbered. omega arith) moves)
      (moves_bytes w (with_made w (w.made + 1)) (w.made + 1) f outcome new bytes refl refl (bytes.flights number f stands) moves)
  happens_bytes w (Lose number) (Lost k) new bytes puts (ended, is) =
      let B : NetworkState → Type 0 = IsByteNetwork in
      subst B (sym is) (with_next w (without_flight w number) bytes (within_is_next tables w IsOfBytes (without_flight w number) (without_is_within w number)) bytes.termini)
  happens_bytes w (Expire node key) (Expired at was_open) new bytes puts (place, opened, is) =
      let B : NetworkState → Type 0 = IsByteNetwork in
      subst B (sym is) (with_next w (with_input w node (TimeUp key)) bytes (input_is_next tables w IsOfBytes w node (TimeUp key) (itself_is_within w) tt) bytes.termini)
  happens_bytes w (AnswerAt node) (Silent at) new bytes puts (t, oldest, rest, None, tid, stands, waits, answers, (place, is)) =
      let B : NetworkState → Type 0 = IsByteNetwork in
      let v : NetworkState = with_terminus w node (Some (record t { tid = tid; waiting = rest })) in
      let same : SameFlights w v = record { flight = refl; made = refl; history = refl } in
      let small = (answered w node t oldest rest None tid bytes stands waits answers).1 in
      subst B (sym is)
      (with_next w v bytes (put_is_next tables w IsOfBytes v (none_is_put tables w IsOfBytes v same)) (rest_bytes w node tid t oldest rest bytes stands waits small))
  happens_bytes w (AnswerAt node) (Answered at first last) new bytes puts (t, oldest, rest, Some answer, tid, stands, waits, answers, (eid, ps, holds, packets, place, begins, ends, is)) =
      let B : NetworkState → Type 0 = IsByteNetwork in
      let v : NetworkState = with_terminus w node (Some (record t { tid = tid; waiting = rest })) in
      let same : SameFlights w v = record { flight = refl; made = refl; history = refl } in
      let a = answered w node t oldest rest (Some answer) tid bytes stands waits answers in
      let all = cut_bytes (unit_of tables.plan) answer oldest.key.source (answer_key eid oldest.key) ps packets (a.0 answer refl) in
      let T : (ℕ → Option TerminusState) → Type 0 = λ terminus. (n : ℕ) (x : TerminusState) → terminus n ≡ Some x → IsOfByteValues x in
      subst B (sym is)
      (with_next w (with_packets v node ps) bytes
      (put_is_next tables w IsOfBytes (with_packets v node ps) (all_are_put tables w IsOfBytes v node ps (none_is_put tables w IsOfBytes v same) all))
      (subst T (sym (packets_termini v node ps)) (rest_bytes w node tid t oldest rest bytes stands waits a.1)))
  happens_bytes w (AnswerAt node) _ new bytes puts (t, oldest, rest, None, tid, stands, waits, answers, done) = absurd done
  happens_bytes w (AnswerAt node) _ new bytes puts (t, oldest, rest, Some answer, tid, stands, waits, answers, done) = absurd done
  happens_bytes w (Switch node) (Switched at) new bytes puts (place, is) =
      let B : NetworkState → Type 0 = IsByteNetwork in
      subst B (sym is)
      (with_next w (with_switched w node) bytes
      (within_is_next tables w IsOfBytes (with_switched w node) (record { flights = λ number f is. is; histories = λ n. refl; made = omega arith })) bytes.termini)
  happens_bytes w _ _ new bytes puts h = absurd h

  pub step_bytes : (w : NetworkState) (event : EventValue) (outcome : OutcomeValue) (new : NetworkState) → IsByteNetwork w
      → ((node : ℕ) (bytes : List ℕ) → event ≡ Put node bytes → AreBytes bytes) → Step tables w event outcome new → IsByteNetwork new
  step_bytes w event (Refused why) new bytes puts h = let B : NetworkState → Type 0 = IsByteNetwork in subst B (sym h.1) bytes
  step_bytes w event outcome new bytes puts h = happens_bytes w event outcome new bytes puts h.1

  run_bytes : (w : NetworkState) (turns : List Turn) → IsByteNetwork w → AllByRecursion (λ turn. (node : ℕ) (bytes : List ℕ) → turn.event ≡ Put node bytes → AreBytes bytes) turns
      → RunFrom tables w turns → IsByteNetwork (after_all w turns)
  run_bytes w [] bytes puts run = bytes
  run_bytes w (turn ∷ turns) bytes puts (step, rest) = run_bytes turn.after turns (step_bytes w turn.event turn.outcome turn.after bytes puts.0 step) puts.1 rest

pub start_bytes : (tables : Tables) (cert : Certificate) → RecordsAreBytes tables.plan cert → IsByteNetwork (at_start tables.plan cert)
start_bytes tables cert records = record {
  flights = λ number f is. absurd (cc);
  arrivals = λ n. tt;
  termini = λ n t is. planned n t (terminus_of tables.plan n) is;
}
  where
    planned : (n : ℕ) (t : TerminusState) (o : Option PlannedTerminus) → option_map (λ (x : PlannedTerminus). record { tid = x.tid; records = records_by_place tables.plan cert n; waiting = [] }) o ≡ Some t → IsOfByteValues t
    planned n t None e = absurd (cc)
    planned n t (Some x) e =
        let made : TerminusState = record { tid = x.tid; records = records_by_place tables.plan cert n; waiting = [] } in
        let R : TerminusState → Type 0 = IsOfByteValues in
        let low = x.lawful_tid in
        let W : WaitingMessage → Type 0 = λ m. AreBytes m.bytes in
        subst R (same_Some made t e) (record { tid = omega arith; held = (records n, All-from_recursion W [] tt) })

pub runs_go_on : (tables : Tables) (cert : Certificate) → RunsGoOn tables cert
runs_go_on tables cert turns event records puts run =
    let bytes = run_bytes tables (at_start tables.plan cert) turns (start_bytes tables cert records) (recursion_from_All (λ turn. (node : ℕ) (bytes : List ℕ) → turn.event ≡ Put node bytes → AreBytes bytes) turns puts) run in
    some_step tables (reached tables.plan cert turns) event (λ n t is. (bytes.termini n t is).held)
