-- What each step does to the flights and to what the nodes are given, whatever the event.
use Rattle.std.{proofs.Common.{◌≡◌, ◌⊎◌, ℕ, ◌+◌, ◌≤◌, Bool, true, false, cond, eqb, List, [], ◌∷◌, length, Option, Some, None, sym, refl, ap, ◌∙◌, subst, inl, inr, arith}, specs.Prelude.{option_map}, specs.List.{AllByRecursion}, proofs.lemmas.Bool.Decides.{eqb_tells}}
use Rattle.mctp_transport.{specs.PacketValues.{PacketValue, KeyValue}, specs.Histories.{Input, Arrived, TimeUp, after}, specs.Hearing.{Answer, Whole, Held, Dropped}}
use Rattle.net_tables.{specs.Routing.{Holds}, specs.TwoPlans.{Tables, rows_by}}
use Rattle.mctp_routing.{specs.declared.row.Hop.{Hop}, specs.declared.decision.Decision.TheVariants.{Here, Drop, Forward}}
use Rattle.net_runs.{specs.Termini.{WaitingMessage, with_waiting}, specs.States.{NetworkState, Flight, with_flight, without_flight, with_made, with_input, with_terminus, with_packet, with_packets, with_received, with_switched, rows_now}, specs.Events.{EventValue, Put, Move, Lose, Expire, AnswerAt, Switch, OutcomeValue, PutIn, Moved, Entered, Stopped, Lost, Expired, Answered, Silent, Switched, Refused}, specs.Networks.{Step, Happens, Moves, IsDecided}, specs.Runs.{IsPutOf, IsAmongFlights}, specs.WalkedGoing.{HasNumberedFlights}}

abbrev pub IsThere : NetworkState → Flight → Type 0
IsThere w f = (number : ℕ) × (w.flight number ≡ Some f)

-- a flight that was there has moved on along a row
pub record HasMoved (tables : Tables) (w : NetworkState) (g : Flight) : Type 0 where
  pub flight : Flight
  pub hop : Hop
  pub there : IsThere w flight
  pub decided : IsDecided tables.plan (rows_now tables w flight.node) flight (Forward hop)
  pub is : g ≡ record flight { node = hop.next; hops = flight.hops + 1 }

abbrev pub new_flight : ℕ → PacketValue → Flight
new_flight node p = record { packet = p; origin = node; node = node; hops = 0 }

-- a flight of a packet that is put in
pub record IsNew (puts : PacketValue → Type 0) (g : Flight) : Type 0 where
  pub node : ℕ
  pub packet : PacketValue
  pub put : puts packet
  pub is : g ≡ new_flight node packet

-- a node is given what was on its way to it, and word of time
abbrev pub MayBeGiven : Tables → NetworkState → ℕ → Input → Type 0
MayBeGiven tables w n (Arrived p) = Holds tables.plan n p.destination × ((f : Flight) × IsThere w f × (f.packet ≡ p))
MayBeGiven tables w n (TimeUp key) = Unit {0}

-- Each flight after a step was there, has moved on or is put in, and each node was given one thing more at most.
pub record IsNext (tables : Tables) (w : NetworkState) (puts : PacketValue → Type 0) (new : NetworkState) : Type 0 where
  pub flights : (number : ℕ) (g : Flight) → new.flight number ≡ Some g → IsThere w g ⊎ (HasMoved tables w g ⊎ IsNew puts g)
  pub given : (n : ℕ) → (new.history n ≡ w.history n) ⊎ ((i : Input) × (new.history n ≡ after (w.history n) i) × MayBeGiven tables w n i)
  pub numbers : HasNumberedFlights w → HasNumberedFlights new
  pub made : w.made ≤ new.made

-- a flight of the changed network is the changed one or an older one
pub changed_or_older : (k number : ℕ) (f g : Flight) (old : Option Flight) → cond (eqb number k) (Some f) old ≡ Some g → ((f ≡ g) × (number ≡ k)) ⊎ (old ≡ Some g)
changed_or_older k number f g old e = elim (eqb_tells number k) [
  | inl same ↦ let h : cond true (Some f) old ≡ Some g = rw same.0 at e in inl (cc, same.1)
  | inr other ↦ inr (rw other.0 at e)
]

pub not_ended : (b : Bool) (g : Flight) (old : Option Flight) → cond b None old ≡ Some g → old ≡ Some g
not_ended true g old e = absurd (cc)
not_ended false g old e = e

-- v has no flights but those of w, and its histories
pub record IsWithin (w v : NetworkState) : Type 0 where
  pub flights : (number : ℕ) (f : Flight) → v.flight number ≡ Some f → w.flight number ≡ Some f
  pub histories : (n : ℕ) → v.history n ≡ w.history n
  pub made : w.made ≤ v.made

pub itself_is_within : (w : NetworkState) → IsWithin w w
itself_is_within w = record { flights = λ number f is. is; histories = λ n. refl; made = omega arith }

pub without_is_within : (w : NetworkState) (number : ℕ) → IsWithin w (without_flight w number)
without_is_within w number = record {
  flights = λ k f is. not_ended (eqb k number) f (w.flight k) is;
  histories = λ n. refl;
  made = omega arith;
}

pub made_is_within : (w : NetworkState) → IsWithin w (with_made w (w.made + 1))
made_is_within w = record { flights = λ k f is. is; histories = λ n. refl; made = omega arith }

within_numbers : (w v : NetworkState) → IsWithin w v → HasNumberedFlights w → HasNumberedFlights v
within_numbers w v within numbered number f is = let h = numbered number f (within.flights number f is) in let m = within.made in omega arith

-- what a terminus makes of a message changes no flight and no history
pub record SameFlights (v u : NetworkState) : Type 0 where
  pub flight : u.flight ≡ v.flight
  pub made : u.made ≡ v.made
  pub history : u.history ≡ v.history

pick_same : (v u : NetworkState) (b : Bool) → SameFlights v u → SameFlights v (cond b u v)
pick_same v u true same = same
pick_same v u false same = record { flight = refl; made = refl; history = refl }

pub received_same : (v : NetworkState) (node : ℕ) (key : KeyValue) (answer : Answer) → SameFlights v (with_received v node key answer)
received_same v node key (Whole message) =
    let item : WaitingMessage = record { key = key; bytes = message } in
    let u : NetworkState = with_terminus v node (option_map (λ t. with_waiting t item) (v.terminus node)) in
    pick_same v u key.owner (record { flight = refl; made = refl; history = refl })
received_same v node key Held = record { flight = refl; made = refl; history = refl }
received_same v node key (Dropped why) = record { flight = refl; made = refl; history = refl }

module _ (tables : Tables) (w : NetworkState) (puts : PacketValue → Type 0) where
  pub same_is_next : (v u : NetworkState) → SameFlights v u → IsNext tables w puts v → IsNext tables w puts u
  same_is_next v u same next =
      let F : (ℕ → Option Flight) → Type 0 = λ flight. (number : ℕ) (g : Flight) → flight number ≡ Some g → IsThere w g ⊎ (HasMoved tables w g ⊎ IsNew puts g) in
      let H : (ℕ → List Input) → Type 0 = λ history. (n : ℕ) → (history n ≡ w.history n) ⊎ ((i : Input) × (history n ≡ after (w.history n) i) × MayBeGiven tables w n i) in
      record {
        flights = subst F (sym same.flight) next.flights;
        given = subst H (sym same.history) next.given;
        numbers = λ numbered number f is.
            let h = next.numbers numbered number f (ap (λ flight. flight number) (sym same.flight) ∙ is) in
            omega (arith, same.made);
        made = let h = next.made in omega (arith, same.made);
      }

  pub within_is_next : (v : NetworkState) → IsWithin w v → IsNext tables w puts v
  within_is_next v within = record {
    flights = λ number f is. inl (number, within.flights number f is);
    given = λ n. inl (within.histories n);
    numbers = within_numbers w v within;
    made = within.made;
  }

  pub input_is_next : (v : NetworkState) (n : ℕ) (i : Input) → IsWithin w v → MayBeGiven tables w n i → IsNext tables w puts (with_input v n i)
  input_is_next v n i within may = record {
    flights = λ number f is. inl (number, within.flights number f is);
    given = λ m.
        let G : ℕ → Type 0 = λ at. MayBeGiven tables w at i in
        elim (eqb_tells m n) [
          | inl same ↦ inr (i, rw same.0 (ap (λ h. after h i) (within.histories m)), subst G (sym same.1) may)
          | inr other ↦ inl (rw other.0 (within.histories m))
        ];
    numbers = within_numbers w v within;
    made = within.made;
  }

  flight_is_next : (v : NetworkState) (k : ℕ) (f : Flight) → IsWithin w v → HasMoved tables w f → (HasNumberedFlights w → k ≤ v.made) → IsNext tables w puts (with_flight v k f)
  flight_is_next v k f within moved small = record {
    flights = λ number g is. elim (changed_or_older k number f g (v.flight number) is) [
      | inl (same, _) ↦ let P : Flight → Type 0 = λ h. HasMoved tables w h in inr (inl (subst P same moved))
      | inr older ↦ inl (number, within.flights number g older)
    ];
    given = λ n. inl (within.histories n);
    numbers = λ numbered number g is. elim (changed_or_older k number f g (v.flight number) is) [
      | inl (_, here) ↦ let h = small numbered in omega arith
      | inr older ↦ within_numbers w v within numbered number g older
    ];
    made = within.made;
  }

  -- moving a flight
  pub moves_is_next : (v : NetworkState) (k : ℕ) (f : Flight) (outcome : OutcomeValue) (new : NetworkState) → IsWithin w v → v.switched ≡ w.switched → IsThere w f → (HasNumberedFlights w → k ≤ v.made)
      → Moves tables v k f outcome new → IsNext tables w puts new
  moves_is_next v k f (Entered j node key answer) new within same there small (Here, holds, (number, at, whose, hears, is)) =
      let P : NetworkState → Type 0 = IsNext tables w puts in
      let entered : NetworkState = with_input v f.node (Arrived f.packet) in
      subst P (sym is) (same_is_next entered (with_received entered f.node key answer) (received_same entered f.node key answer)
      (input_is_next v f.node (Arrived f.packet) within (holds, (f, there, refl))))
  moves_is_next v k f (Stopped j told) new within same there small (Drop why, decided, (number, said, is)) =
      let P : NetworkState → Type 0 = IsNext tables w puts in subst P (sym is) (within_is_next v within)
  moves_is_next v k f (Moved j node hops) new within same there small (Forward hop, decided, (number, at, more, is)) =
      let P : NetworkState → Type 0 = IsNext tables w puts in
      let D : (ℕ → Bool) → Type 0 = λ switched. IsDecided tables.plan (rows_by tables.plan tables.after (switched f.node) f.node) f (Forward hop) in
      subst P (sym is) (flight_is_next v k (record f { node = node; hops = hops }) within (record {
        flight = f;
        hop = hop;
        there = there;
        decided = subst D same decided;
        is = λ i. record f { node = at i; hops = more i };
      }) small)
  moves_is_next v k f _ new within same there small (_, decided, done) = absurd done

  -- v has the flights of w and such as are put in
  pub record IsPutInto (v : NetworkState) : Type 0 where
    pub flights : (number : ℕ) (f : Flight) → v.flight number ≡ Some f → IsThere w f ⊎ IsNew puts f
    pub histories : (n : ℕ) → v.history n ≡ w.history n
    pub numbers : HasNumberedFlights w → HasNumberedFlights v
    pub made : w.made ≤ v.made

  pub none_is_put : (v : NetworkState) → SameFlights w v → IsPutInto v
  none_is_put v same = record {
    flights = λ number f is. inl (number, ap (λ flight. flight number) (sym same.flight) ∙ is);
    histories = λ n. ap (λ history. history n) same.history;
    numbers = λ numbered number f is.
        let h = numbered number f (ap (λ flight. flight number) (sym same.flight) ∙ is) in omega (arith, same.made);
    made = omega (arith, same.made);
  }

  pub one_is_put : (v : NetworkState) (node : ℕ) (p : PacketValue) → IsPutInto v → puts p → IsPutInto (with_packet v node p)
  one_is_put v node p into put = record {
    flights = λ number g is. elim (changed_or_older (v.made + 1) number (new_flight node p) g (v.flight number) is) [
      | inl (same, _) ↦ inr (record { node = node; packet = p; put = put; is = sym same })
      | inr older ↦ into.flights number g older
    ];
    histories = into.histories;
    numbers = λ numbered number g is. elim (changed_or_older (v.made + 1) number (new_flight node p) g (v.flight number) is) [
      | inl (_, here) ↦ omega arith
      | inr older ↦ let h = into.numbers numbered number g older in omega arith
    ];
    made = let h = into.made in omega arith;
  }

  pub all_are_put : (v : NetworkState) (node : ℕ) (ps : List PacketValue) → IsPutInto v → AllByRecursion puts ps → IsPutInto (with_packets v node ps)
  all_are_put v node [] into all = into
  all_are_put v node (p ∷ ps) into all = all_are_put (with_packet v node p) node ps (one_is_put v node p into all.0) all.1

  pub put_is_next : (v : NetworkState) → IsPutInto v → IsNext tables w puts v
  put_is_next v into = record {
    flights = λ number f is. elim (into.flights number f is) [ inl there ↦ inl there | inr new ↦ inr (inr new) ];
    given = λ n. inl (into.histories n);
    numbers = into.numbers;
    made = into.made;
  }

-- a flight that was made before stays where packets are put in
pub older_stays : (w : NetworkState) (node : ℕ) (ps : List PacketValue) (k : ℕ) → k ≤ w.made → (with_packets w node ps).flight k ≡ w.flight k
older_stays w node [] k small = refl
older_stays w node (p ∷ ps) k small =
    older_stays (with_packet w node p) node ps k (omega arith)
    ∙ elim (eqb_tells k (w.made + 1)) [ inl same ↦ absurd (omega (arith, same.1)) | inr other ↦ rw other.0 refl ]

-- each packet that is put in is one of the flights made
among_weaker : (w : NetworkState) (first last others : ℕ) (ps : List PacketValue) → AllByRecursion (IsAmongFlights w (first + 1) last) ps → last ≡ others
    → AllByRecursion (IsAmongFlights w first others) ps
among_weaker w first last others [] all same = tt
among_weaker w first last others (p ∷ ps) all same =
    let (k, f, low, high, stands, is) = all.0 in
    ((k, f, omega arith, omega arith, stands, is), among_weaker w first last others ps all.1 same)

pub packets_stand : (w : NetworkState) (node : ℕ) (ps : List PacketValue) → AllByRecursion (IsAmongFlights (with_packets w node ps) (w.made + 1) (w.made + length ps)) ps
packets_stand w node [] = tt
packets_stand w node (p ∷ ps) =
    let there : (with_packet w node p).flight (w.made + 1) ≡ Some (new_flight node p) = elim (eqb_tells (w.made + 1) (w.made + 1)) [
      | inl same ↦ rw same.0 refl
      | inr other ↦ absurd (other.1 refl)
    ] in (
      (
        w.made + 1,
        new_flight node p,
        omega arith,
        omega arith,
        older_stays (with_packet w node p) node ps (w.made + 1) (omega arith) ∙ there,
        refl,
      ),
      among_weaker (with_packets (with_packet w node p) node ps) (w.made + 1) (w.made + 1 + length ps) (w.made + length (p ∷ ps)) ps
          (packets_stand (with_packet w node p) node ps) (omega arith),
    )

-- an event that isn't refused
happens_is_next : (tables : Tables) (w : NetworkState) (event : EventValue) (outcome : OutcomeValue) (new : NetworkState) → Happens tables w event outcome new
    → IsNext tables w (IsPutOf tables.plan event outcome new) new
happens_is_next tables w (Put node bytes) (PutIn k at) new (p, spelled, number, place, is) =
    let puts : PacketValue → Type 0 = IsPutOf tables.plan (Put node bytes) (PutIn k at) new in
    let P : NetworkState → Type 0 = IsNext tables w puts in
    let same : SameFlights w w = record { flight = refl; made = refl; history = refl } in
    subst P (sym is) (put_is_next tables w puts (with_packet w node p) (one_is_put tables w puts w node p (none_is_put tables w puts w same) spelled))
happens_is_next tables w (Move number false) outcome new (f, stands, moves) =
    moves_is_next tables w (IsPutOf tables.plan (Move number false) outcome new) (without_flight w number) number f outcome new (without_is_within w number) refl (number, stands)
    (λ numbered. numbered number f stands) moves
happens_is_next tables w (Move number true) outcome new (f, stands, moves) =
    moves_is_next tables w (IsPutOf tables.plan (Move number true) outcome new) (with_made w (w.made + 1)) (w.made + 1) f outcome new (made_is_within w) refl (number, stands)
    (λ numbered. omega arith) moves
happens_is_next tables w (Lose number) (Lost k) new (ended, is) =
    let puts : PacketValue → Type 0 = IsPutOf tables.plan (Lose number) (Lost k) new in
    let P : NetworkState → Type 0 = IsNext tables w puts in
    subst P (sym is) (within_is_next tables w puts (without_flight w number) (without_is_within w number))
happens_is_next tables w (Expire node key) (Expired at was_open) new (place, opened, is) =
    let puts : PacketValue → Type 0 = IsPutOf tables.plan (Expire node key) (Expired at was_open) new in
    let P : NetworkState → Type 0 = IsNext tables w puts in
    subst P (sym is) (input_is_next tables w puts w node (TimeUp key) (itself_is_within w) tt)
happens_is_next tables w (AnswerAt node) (Silent at) new (t, oldest, rest, None, tid, stands, waits, answers, (place, is)) =
    let puts : PacketValue → Type 0 = IsPutOf tables.plan (AnswerAt node) (Silent at) new in
    let P : NetworkState → Type 0 = IsNext tables w puts in
    let v : NetworkState = with_terminus w node (Some (record t { tid = tid; waiting = rest })) in
    let same : SameFlights w v = record { flight = refl; made = refl; history = refl } in
    subst P (sym is) (put_is_next tables w puts v (none_is_put tables w puts v same))
happens_is_next tables w (AnswerAt node) (Answered at first last) new (t, oldest, rest, Some answer, tid, stands, waits, answers, (eid, ps, holds, cut, place, begins, ends, is)) =
    let v : NetworkState = with_terminus w node (Some (record t { tid = tid; waiting = rest })) in
    let puts : PacketValue → Type 0 = IsAmongFlights new first last in
    let P : NetworkState → Type 0 = IsNext tables w puts in
    let same : SameFlights w v = record { flight = refl; made = refl; history = refl } in
    let put : AllByRecursion puts ps =
    subst (λ (n : ℕ). AllByRecursion (IsAmongFlights new n last) ps) (sym begins)
    (subst (λ (n : ℕ). AllByRecursion (IsAmongFlights new (v.made + 1) n) ps) (sym ends)
    (subst (λ (u : NetworkState). AllByRecursion (IsAmongFlights u (v.made + 1) (v.made + length ps)) ps) (sym is) (packets_stand v node ps))) in
    subst P (sym is) (put_is_next tables w puts (with_packets v node ps) (all_are_put tables w puts v node ps (none_is_put tables w puts v same) put))
happens_is_next tables w (AnswerAt node) _ new (t, oldest, rest, None, tid, stands, waits, answers, done) = absurd done
happens_is_next tables w (AnswerAt node) _ new (t, oldest, rest, Some answer, tid, stands, waits, answers, done) = absurd done
happens_is_next tables w (Switch node) (Switched at) new (place, is) =
    let puts : PacketValue → Type 0 = IsPutOf tables.plan (Switch node) (Switched at) new in
    let P : NetworkState → Type 0 = IsNext tables w puts in
    subst P (sym is)
    (within_is_next tables w puts (with_switched w node) (record { flights = λ number f is. is; histories = λ n. refl; made = omega arith }))
happens_is_next tables w _ _ new h = absurd h

pub step_is_next : (tables : Tables) (w : NetworkState) (event : EventValue) (outcome : OutcomeValue) (new : NetworkState) → Step tables w event outcome new
    → IsNext tables w (IsPutOf tables.plan event outcome new) new
step_is_next tables w event (Refused why) new h =
    let puts : PacketValue → Type 0 = IsPutOf tables.plan event (Refused why) new in
    let P : NetworkState → Type 0 = IsNext tables w puts in subst P (sym h.1) (within_is_next tables w puts w (itself_is_within w))
step_is_next tables w event outcome new h = happens_is_next tables w event outcome new h.1
