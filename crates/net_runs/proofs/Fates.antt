-- What a step does to one flight.
use Rattle.std.{proofs.Common.{◌≡◌, ◌≢◌, ◌⊎◌, ℕ, ◌+◌, ◌≤◌, Bool, true, false, not, ◌&&◌, cond, eqb, Option, Some, None, sym, refl, ap, ◌∙◌, subst, inl, inr, arith}, proofs.lemmas.Bool.Decides.{eqb_tells}}
use Rattle.mctp_transport.{specs.PacketValues.{KeyValue}, specs.Histories.{Arrived}, specs.Hearing.{Answer}}
use Rattle.net_tables.{specs.Routing.{Holds}, specs.TwoPlans.{Tables}}
use Rattle.mctp_routing.{specs.declared.row.Hop.{Hop}, specs.declared.decision.ForwardFault.{ForwardFault}, specs.declared.decision.Decision.TheVariants.{Here, Drop, Forward}}
use Rattle.net_runs.{specs.States.{NetworkState, Flight, destination, without_flight, with_made, with_input, with_terminus, rows_now}, specs.Events.{EventValue, Put, Move, Lose, Expire, AnswerAt, Switch, OutcomeValue, PutIn, Moved, Entered, Stopped, Lost, Expired, Answered, Silent, Switched, Refused}, specs.Networks.{Step, Happens, Moves, IsDecided}, specs.Deliveries.{names_itself, is_refusal}, proofs.Nexts.{received_same, older_stays}}

-- the step moves the flight itself
abbrev pub counts : ℕ → EventValue → OutcomeValue → Bool
counts number event outcome = names_itself number event && not (is_refusal outcome)

-- the flight is there as before, if it was
pub record IsUntouched (w : NetworkState) (number : ℕ) (event : EventValue) (outcome : OutcomeValue) (new : NetworkState) : Type 0 where
  pub flight : new.flight number ≡ w.flight number
  pub uncounted : counts number event outcome ≡ false

-- the flight is lost
pub record IsLostNow (number : ℕ) (event : EventValue) (outcome : OutcomeValue) (new : NetworkState) : Type 0 where
  pub lost : outcome ≡ Lost number
  pub gone : new.flight number ≡ None
  pub uncounted : counts number event outcome ≡ false

abbrev pub moved_to : Flight → Hop → Flight
moved_to f hop = record f { node = hop.next; hops = f.hops + 1 }

-- what a move of the flight itself makes of it: it enters, ends, or is at the next node
abbrev pub IsEntering : Tables → Flight → ℕ → OutcomeValue → NetworkState → Type 0
IsEntering tables f number outcome new =
    Holds tables.plan f.node (destination f) × (new.flight number ≡ None) × ((key : KeyValue) × (answer : Answer) × (outcome ≡ Entered number f.node key answer))

abbrev pub IsEnding : Tables → NetworkState → Flight → Type 0
IsEnding tables w f = (why : ForwardFault) × IsDecided tables.plan (rows_now tables w f.node) f (Drop why)

abbrev pub IsMoving : Tables → NetworkState → Flight → ℕ → NetworkState → Type 0
IsMoving tables w f number new = (hop : Hop) × IsDecided tables.plan (rows_now tables w f.node) f (Forward hop) × (new.flight number ≡ Some (moved_to f hop))

pub record IsMoved (tables : Tables) (w : NetworkState) (number : ℕ) (event : EventValue) (outcome : OutcomeValue) (new : NetworkState) : Type 0 where
  pub flight : Flight
  pub stood : w.flight number ≡ Some flight
  pub counted : counts number event outcome ≡ true
  pub made_of_it : IsEntering tables flight number outcome new ⊎ (IsEnding tables w flight ⊎ IsMoving tables w flight number new)

abbrev pub Fate : Tables → NetworkState → ℕ → EventValue → OutcomeValue → NetworkState → Type 0
Fate tables w number event outcome new =
    IsUntouched w number event outcome new ⊎ (IsLostNow number event outcome new ⊎ IsMoved tables w number event outcome new)

-- a change of another flight
other_flight : (k number : ℕ) (new old : Option Flight) → number ≢ k → cond (eqb number k) new old ≡ old
other_flight k number new old other = elim (eqb_tells number k) [ inl same ↦ absurd (other same.1) | inr apart ↦ rw apart.0 refl ]

this_flight : (number : ℕ) (new old : Option Flight) → cond (eqb number number) new old ≡ new
this_flight number new old = elim (eqb_tells number number) [ inl same ↦ rw same.0 refl | inr apart ↦ absurd (apart.1 refl) ]

-- the flights of a network to which this number is another's
moves_other : (tables : Tables) (v : NetworkState) (k : ℕ) (f : Flight) (outcome : OutcomeValue) (new : NetworkState) (number : ℕ) → number ≢ k → Moves tables v k f outcome new
    → new.flight number ≡ v.flight number
moves_other tables v k f (Entered j node key answer) new number other (Here, holds, (same, at, whose, hears, is)) =
    let entered : NetworkState = with_input v f.node (Arrived f.packet) in
    ap (λ (u : NetworkState). u.flight number) is ∙ ap (λ flight. flight number) (received_same entered f.node key answer).flight
moves_other tables v k f (Stopped j told) new number other (Drop why, decided, (same, said, is)) = ap (λ (u : NetworkState). u.flight number) is
moves_other tables v k f (Moved j node hops) new number other (Forward hop, decided, (same, at, more, is)) =
    ap (λ (u : NetworkState). u.flight number) is ∙ other_flight k number (Some (record f { node = node; hops = hops })) (v.flight number) other
moves_other tables v k f _ new number other (_, decided, done) = absurd done

-- what comes of a move of the flight itself
moves_this : (tables : Tables) (w : NetworkState) (number : ℕ) (f : Flight) (outcome : OutcomeValue) (new : NetworkState) → Moves tables (without_flight w number) number f outcome new
    → (is_refusal outcome ≡ false) × (IsEntering tables f number outcome new ⊎ (IsEnding tables w f ⊎ IsMoving tables w f number new))
moves_this tables w number f (Entered j node key answer) new (Here, holds, (same, at, whose, hears, is)) =
    let entered : NetworkState = with_input (without_flight w number) f.node (Arrived f.packet) in
    let gone : new.flight number ≡ None =
    ap (λ (u : NetworkState). u.flight number) is ∙ ap (λ flight. flight number) (received_same entered f.node key answer).flight
    ∙ this_flight number None (w.flight number) in
    (refl, inl (holds, gone, (key, answer, λ i. Entered (same i) (at i) key answer)))
moves_this tables w number f (Stopped j told) new (Drop why, decided, done) = (refl, inr (inl (why, decided)))
moves_this tables w number f (Moved j node hops) new (Forward hop, decided, (same, at, more, is)) =
    let changed : record f { node = node; hops = hops } ≡ moved_to f hop = λ i. record f { node = at i; hops = more i } in (
      refl,
      inr (inr (
        hop,
        decided,
        ap (λ (u : NetworkState). u.flight number) is
            ∙ this_flight number (Some (record f { node = node; hops = hops })) ((without_flight w number).flight number) ∙ ap Some changed,
      )),
    )
moves_this tables w number f _ new (_, decided, done) = absurd done

refusal_uncounted : (number : ℕ) (event : EventValue) (b : Bool) → b ≡ true → (names_itself number event && not b) ≡ false
refusal_uncounted number event true e = by (names_itself number event)
  where
    by : (b : Bool) → (b && false) ≡ false
    by true = refl
    by false = refl
refusal_uncounted number event false e = absurd (cc)

happens_fate : (tables : Tables) (w : NetworkState) (number : ℕ) (event : EventValue) (outcome : OutcomeValue) (new : NetworkState) → number ≤ w.made
    → Happens tables w event outcome new → Fate tables w number event outcome new
happens_fate tables w number (Put node bytes) (PutIn k at) new old (p, spelled, same, place, is) = inl (record {
  flight = ap (λ (u : NetworkState). u.flight number) is ∙ other_flight (w.made + 1) number _ (w.flight number) (λ e. omega arith);
  uncounted = refl;
})
happens_fate tables w number (Move k false) outcome new old (f, stands, moves) = elim (eqb_tells number k) [
  | inl same ↦
      let S : ℕ → Type 0 = λ n. w.flight n ≡ Some f in
      let M : ℕ → Type 0 = λ n. Moves tables (without_flight w n) n f outcome new in
      let made = moves_this tables w number f outcome new (subst M (sym same.1) moves) in
      inr (inr (record { flight = f; stood = subst S (sym same.1) stands; counted = rw (same.0, made.0) refl; made_of_it = made.1 }))
  | inr other ↦ inl (record {
    flight = moves_other tables (without_flight w k) k f outcome new number other.1 moves ∙ other_flight k number None (w.flight number) other.1;
    uncounted = rw other.0 refl;
  })
]
happens_fate tables w number (Move k true) outcome new old (f, stands, moves) = inl (record {
  flight = moves_other tables (with_made w (w.made + 1)) (w.made + 1) f outcome new number (λ e. omega arith) moves;
  uncounted = refl;
})
happens_fate tables w number (Lose k) (Lost j) new old (same, is) = elim (eqb_tells number k) [
  | inl here ↦
      inr (inl (record {
        lost = ap Lost (same ∙ sym here.1);
        gone = ap (λ (u : NetworkState). u.flight number) is ∙ rw here.0 refl;
        uncounted = refl;
      }))
  | inr other ↦ inl (record {
    flight = ap (λ (u : NetworkState). u.flight number) is ∙ other_flight k number None (w.flight number) other.1;
    uncounted = refl;
  })
]
happens_fate tables w number (Expire node key) (Expired at was_open) new old (place, opened, is) =
    inl (record { flight = ap (λ (u : NetworkState). u.flight number) is; uncounted = refl })
happens_fate tables w number (AnswerAt node) (Silent at) new old (t, oldest, rest, None, tid, stands, waits, answers, (place, is)) =
    inl (record { flight = ap (λ (u : NetworkState). u.flight number) is; uncounted = refl })
happens_fate tables w number (AnswerAt node) (Answered at first last) new old (t, oldest, rest, Some answer, tid, stands, waits, answers, (eid, ps, holds, packets, place, begins, ends, is)) =
    let v : NetworkState = with_terminus w node (Some (record t { tid = tid; waiting = rest })) in
    inl (record { flight = ap (λ (u : NetworkState). u.flight number) is ∙ older_stays v node ps number old; uncounted = refl })
happens_fate tables w number (AnswerAt node) _ new old (t, oldest, rest, None, tid, stands, waits, answers, done) = absurd done
happens_fate tables w number (AnswerAt node) _ new old (t, oldest, rest, Some answer, tid, stands, waits, answers, done) = absurd done
happens_fate tables w number (Switch node) (Switched at) new old (place, is) =
    inl (record { flight = ap (λ (u : NetworkState). u.flight number) is; uncounted = refl })
happens_fate tables w number _ _ new old h = absurd h

pub step_fate : (tables : Tables) (w : NetworkState) (number : ℕ) (event : EventValue) (outcome : OutcomeValue) (new : NetworkState) → number ≤ w.made
    → Step tables w event outcome new → Fate tables w number event outcome new
step_fate tables w number event (Refused why) new old h =
    inl (record { flight = ap (λ (u : NetworkState). u.flight number) h.1; uncounted = refusal_uncounted number event true refl })
step_fate tables w number event outcome new old h = happens_fate tables w number event outcome new old h.1
