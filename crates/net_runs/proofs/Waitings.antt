-- What each step does to the messages that wait, whatever the event.
use Rattle.std.{proofs.Common.{◌≡◌, ℕ, ◌+◌, inl, inr, Bool, true, false, cond, List, [], ◌∷◌, ◌++◌, Option, Some, None, sym, refl, subst}, specs.Prelude.{option_map}, specs.List.{AllByRecursion}, proofs.lemmas.Bool.{cases_Bool}, proofs.lemmas.Option.{same_Some}}
use Rattle.mctp_transport.{specs.PacketValues.{KeyValue}, specs.Histories.{Arrived}, specs.Hearing.{Answer, Whole, Held, Dropped}}
use Rattle.mctp_routing.specs.declared.decision.Decision.TheVariants.{Here, Drop, Forward}
use Rattle.net_tables.specs.TwoPlans.{Tables}
use Rattle.net_runs.{specs.Termini.{TerminusState, WaitingMessage, with_waiting}, specs.States.{NetworkState, Flight, without_flight, with_made, with_input, with_terminus, with_received}, specs.Events.{EventValue, Put, Move, Lose, Expire, AnswerAt, Switch, OutcomeValue, PutIn, Moved, Entered, Stopped, Lost, Expired, Answered, Silent, Switched, Refused}, specs.Networks.{Step, Happens, Moves}, proofs.Records.{with_terminus_keeps, mapped, packets_termini}}

-- the outcome tells the message at n, and its key has the owner bit
abbrev pub IsToldAt : OutcomeValue → ℕ → WaitingMessage → Type 0
IsToldAt outcome n m = (number : ℕ) × (outcome ≡ Entered number n m.key (Whole m.bytes)) × (m.key.owner ≡ true)

-- of each message that waits at n P holds
abbrev pub EachWaiting : (ℕ → WaitingMessage → Type 0) → NetworkState → Type 0
EachWaiting P w = (n : ℕ) (t : TerminusState) → w.terminus n ≡ Some t → AllByRecursion (P n) t.waiting

push : (P : WaitingMessage → Type 0) (ms : List WaitingMessage) (m : WaitingMessage) → AllByRecursion P ms → P m → AllByRecursion P (ms ++ m ∷ [])
push P [] m all new = (new, tt)
push P (x ∷ ms) m all new = (all.0, push P ms m all.1 new)

module _ (tables : Tables) (P : ℕ → WaitingMessage → Type 0) where
  received_waiting : (v : NetworkState) (node number : ℕ) (key : KeyValue) (answer : Answer) → EachWaiting P v
      → ((n : ℕ) (m : WaitingMessage) → IsToldAt (Entered number node key answer) n m → P n m) → EachWaiting P (with_received v node key answer)
  received_waiting v node number key (Whole message) each told =
      let item : WaitingMessage = record { key = key; bytes = message } in
      let u : NetworkState = with_terminus v node (option_map (λ t. with_waiting t item) (v.terminus node)) in
      let K : ℕ → TerminusState → Type 0 = λ n t. AllByRecursion (P n) t.waiting in
      elim (cases_Bool key.owner) [
        | inl owned ↦
            let E : Bool → Type 0 = λ b. EachWaiting P (cond b u v) in
            subst E (sym owned)
            (with_terminus_keeps K v node (option_map (λ t. with_waiting t item) (v.terminus node)) each (λ t is.
            let m = mapped (v.terminus node) item t is in
            let R : TerminusState → Type 0 = λ x. AllByRecursion (P node) x.waiting in
            subst R m.2 (push (P node) m.0.waiting item (each node m.0 m.1) (told node item (number, refl, owned)))))
        | inr other ↦ let E : Bool → Type 0 = λ b. EachWaiting P (cond b u v) in subst E (sym other) each
      ]
  received_waiting v node number key Held each told = each
  received_waiting v node number key (Dropped why) each told = each

  moves_waiting : (v : NetworkState) (k : ℕ) (f : Flight) (outcome : OutcomeValue) (new : NetworkState) → EachWaiting P v → Moves tables v k f outcome new
      → ((n : ℕ) (m : WaitingMessage) → IsToldAt outcome n m → P n m) → EachWaiting P new
  moves_waiting v k f (Entered j node key answer) new each (Here, holds, (number, at, whose, hears, is)) told =
      let E : NetworkState → Type 0 = EachWaiting P in
      let T : ℕ → Type 0 = λ m. (n : ℕ) (x : WaitingMessage) → IsToldAt (Entered j m key answer) n x → P n x in
      subst E (sym is) (received_waiting (with_input v f.node (Arrived f.packet)) f.node j key answer each (subst T at told))
  moves_waiting v k f (Stopped j why) new each (Drop drop, decided, (number, same, is)) told = let E : NetworkState → Type 0 = EachWaiting P in subst E (sym is) each
  moves_waiting v k f (Moved j node hops) new each (Forward hop, decided, (number, at, more, is)) told = let E : NetworkState → Type 0 = EachWaiting P in subst E (sym is) each
  moves_waiting v k f _ new each (_, decided, done) told = absurd done

  taken_off : (w : NetworkState) (node tid : ℕ) (t : TerminusState) (oldest : WaitingMessage) (rest : List WaitingMessage) → EachWaiting P w → w.terminus node ≡ Some t
      → t.waiting ≡ oldest ∷ rest → EachWaiting P (with_terminus w node (Some (record t { tid = tid; waiting = rest })))
  taken_off w node tid t oldest rest each stands waits =
      let K : ℕ → TerminusState → Type 0 = λ n x. AllByRecursion (P n) x.waiting in
      let R : TerminusState → Type 0 = λ x. AllByRecursion (P node) x.waiting in
      let A : List WaitingMessage → Type 0 = λ ms. AllByRecursion (P node) ms in
      let both : AllByRecursion (P node) (oldest ∷ rest) = subst A waits (each node t stands) in
      with_terminus_keeps K w node (Some (record t { tid = tid; waiting = rest })) each (λ x is. subst R (same_Some (record t { tid = tid; waiting = rest }) x is) both.1)

  happens_waiting : (w : NetworkState) (event : EventValue) (outcome : OutcomeValue) (new : NetworkState) → EachWaiting P w → Happens tables w event outcome new
      → ((n : ℕ) (m : WaitingMessage) → IsToldAt outcome n m → P n m) → EachWaiting P new
  happens_waiting w (Put node bytes) (PutIn k at) new each (p, spelled, number, place, is) told = let E : NetworkState → Type 0 = EachWaiting P in subst E (sym is) each
  happens_waiting w (Move number false) outcome new each (f, stands, moves) told = moves_waiting (without_flight w number) number f outcome new each moves told
  happens_waiting w (Move number true) outcome new each (f, stands, moves) told = moves_waiting (with_made w (w.made + 1)) (w.made + 1) f outcome new each moves told
  happens_waiting w (Lose number) (Lost k) new each (ended, is) told = let E : NetworkState → Type 0 = EachWaiting P in subst E (sym is) each
  happens_waiting w (Expire node key) (Expired at was_open) new each (place, opened, is) told = let E : NetworkState → Type 0 = EachWaiting P in subst E (sym is) each
  happens_waiting w (AnswerAt node) (Silent at) new each (t, oldest, rest, None, tid, stands, waits, answers, (place, is)) told =
      let E : NetworkState → Type 0 = EachWaiting P in subst E (sym is) (taken_off w node tid t oldest rest each stands waits)
  happens_waiting w (AnswerAt node) (Answered at first last) new each (t, oldest, rest, Some answer, tid, stands, waits, answers, (eid, ps, holds, packets, place, begins, ends, is)) told =
      let v : NetworkState = with_terminus w node (Some (record t { tid = tid; waiting = rest })) in
      let E : NetworkState → Type 0 = EachWaiting P in
      let T : (ℕ → Option TerminusState) → Type 0 = λ terminus. (n : ℕ) (x : TerminusState) → terminus n ≡ Some x → AllByRecursion (P n) x.waiting in
      subst E (sym is) (subst T (sym (packets_termini v node ps)) (taken_off w node tid t oldest rest each stands waits))
  happens_waiting w (AnswerAt node) _ new each (t, oldest, rest, None, tid, stands, waits, answers, done) told = absurd done
  happens_waiting w (AnswerAt node) _ new each (t, oldest, rest, Some answer, tid, stands, waits, answers, done) told = absurd done
  happens_waiting w (Switch node) (Switched at) new each (place, is) told = let E : NetworkState → Type 0 = EachWaiting P in subst E (sym is) each
  happens_waiting w _ _ new each h told = absurd h

  -- what waited and what the step tells of a message with the owner bit has P, so what waits then has it
  pub step_waiting : (w : NetworkState) (event : EventValue) (outcome : OutcomeValue) (new : NetworkState) → EachWaiting P w → Step tables w event outcome new
      → ((n : ℕ) (m : WaitingMessage) → IsToldAt outcome n m → P n m) → EachWaiting P new
  step_waiting w event (Refused why) new each h told = let E : NetworkState → Type 0 = EachWaiting P in subst E (sym h.1) each
  step_waiting w event outcome new each h told = happens_waiting w event outcome new each h.1 told
