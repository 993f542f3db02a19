-- Along a run termini stand only where the plan has them.
use Rattle.std.{proofs.Common.{◌≡◌, ◌≢◌, ℕ, ◌+◌, Bool, true, false, cond, List, [], ◌∷◌, Option, Some, None, sym, subst}, specs.Prelude.{option_map}, proofs.lemmas.Option.{none-some}}
use Rattle.mctp_transport.{specs.PacketValues.{KeyValue}, specs.Histories.{Arrived}, specs.Hearing.{Answer, Whole, Held, Dropped}}
use Rattle.mctp_routing.specs.declared.decision.Decision.TheVariants.{Here, Drop, Forward}
use Rattle.plan_values.{specs.declared.plan.Plan.{Plan}, specs.declared.certificate.Certificate.{Certificate}, specs.declared.terminus.PlannedTerminus.{PlannedTerminus}}
use Rattle.net_tables.{specs.Repositories.{terminus_of, records_by_place}, specs.TwoPlans.{Tables}}
use Rattle.net_runs.{specs.Termini.{TerminusState, WaitingMessage, with_waiting}, specs.States.{NetworkState, Flight, at_start, without_flight, with_made, with_input, with_terminus, with_received}, specs.Events.{EventValue, Put, Move, Lose, Expire, AnswerAt, Switch, OutcomeValue, PutIn, Moved, Entered, Stopped, Lost, Expired, Answered, Silent, Switched, Refused}, specs.Networks.{Step, Happens, Moves}, specs.Runs.{Turn, RunOf, RunFrom, after_all, reached}, proofs.Records.{with_terminus_keeps, mapped, packets_termini}}

-- a terminus stands only where the plan has one
abbrev pub TerminiAreThere : Plan → NetworkState → Type 0
TerminiAreThere plan w = (n : ℕ) (t : TerminusState) → w.terminus n ≡ Some t → terminus_of plan n ≢ None

module _ (tables : Tables) (cert : Certificate) where
  received_keeps : (w : NetworkState) (node : ℕ) (key : KeyValue) (answer : Answer) → TerminiAreThere tables.plan w → TerminiAreThere tables.plan (with_received w node key answer)
  received_keeps w node key (Whole message) kept =
      let item : WaitingMessage = record { key = key; bytes = message } in
      let u : NetworkState = with_terminus w node (option_map (λ t. with_waiting t item) (w.terminus node)) in
      let P : ℕ → TerminusState → Type 0 = λ n t. terminus_of tables.plan n ≢ None in
      pick key.owner u
      (with_terminus_keeps P w node (option_map (λ t. with_waiting t item) (w.terminus node)) kept (λ t is.
      let m = mapped (w.terminus node) item t is in kept node m.0 m.1))
    where
      pick : (b : Bool) (u : NetworkState) → TerminiAreThere tables.plan u → TerminiAreThere tables.plan (cond b u w)
      pick true u h = h
      pick false u h = kept
  received_keeps w node key Held kept = kept
  received_keeps w node key (Dropped why) kept = kept

  moves_keep : (w : NetworkState) (k : ℕ) (f : Flight) (outcome : OutcomeValue) (new : NetworkState) → TerminiAreThere tables.plan w → Moves tables w k f outcome new
      → TerminiAreThere tables.plan new
  moves_keep w k f (Entered j node key answer) new kept (Here, holds, (number, at, whose, hears, is)) =
      let P : NetworkState → Type 0 = TerminiAreThere tables.plan in
      subst P (sym is) (received_keeps (with_input w f.node (Arrived f.packet)) f.node key answer kept)
  moves_keep w k f (Stopped j told) new kept (Drop why, decided, (number, same, is)) = let P : NetworkState → Type 0 = TerminiAreThere tables.plan in subst P (sym is) kept
  moves_keep w k f (Moved j node hops) new kept (Forward hop, decided, (number, at, more, is)) = let P : NetworkState → Type 0 = TerminiAreThere tables.plan in subst P (sym is) kept
  moves_keep w k f _ new kept (_, decided, done) = absurd done

  answered_keeps : (w : NetworkState) (node tid : ℕ) (t : TerminusState) (rest : List WaitingMessage) → TerminiAreThere tables.plan w → w.terminus node ≡ Some t
      → TerminiAreThere tables.plan (with_terminus w node (Some (record t { tid = tid; waiting = rest })))
  answered_keeps w node tid t rest kept stands =
      let P : ℕ → TerminusState → Type 0 = λ n x. terminus_of tables.plan n ≢ None in
      with_terminus_keeps P w node (Some (record t { tid = tid; waiting = rest })) kept (λ x is. kept node t stands)

  happens_keep : (w : NetworkState) (event : EventValue) (outcome : OutcomeValue) (new : NetworkState) → TerminiAreThere tables.plan w → Happens tables w event outcome new
      → TerminiAreThere tables.plan new
  happens_keep w (Put node bytes) (PutIn k at) new kept (p, spelled, number, place, is) = let P : NetworkState → Type 0 = TerminiAreThere tables.plan in subst P (sym is) kept
  happens_keep w (Move number false) outcome new kept (f, stands, moves) = moves_keep (without_flight w number) number f outcome new kept moves
  happens_keep w (Move number true) outcome new kept (f, stands, moves) = moves_keep (with_made w (w.made + 1)) (w.made + 1) f outcome new kept moves
  happens_keep w (Lose number) (Lost k) new kept (ended, is) = let P : NetworkState → Type 0 = TerminiAreThere tables.plan in subst P (sym is) kept
  happens_keep w (Expire node key) (Expired at was_open) new kept (place, opened, is) = let P : NetworkState → Type 0 = TerminiAreThere tables.plan in subst P (sym is) kept
  happens_keep w (AnswerAt node) (Silent at) new kept (t, oldest, rest, None, tid, stands, waits, answers, (place, is)) =
      let P : NetworkState → Type 0 = TerminiAreThere tables.plan in subst P (sym is) (answered_keeps w node tid t rest kept stands)
  happens_keep w (AnswerAt node) (Answered at first last) new kept (t, oldest, rest, Some answer, tid, stands, waits, answers, (eid, ps, holds, packets, place, begins, ends, is)) =
      let v : NetworkState = with_terminus w node (Some (record t { tid = tid; waiting = rest })) in
      let P : NetworkState → Type 0 = TerminiAreThere tables.plan in
      let T : (ℕ → Option TerminusState) → Type 0 = λ terminus. (n : ℕ) (x : TerminusState) → terminus n ≡ Some x → terminus_of tables.plan n ≢ None in
      subst P (sym is) (subst T (sym (packets_termini v node ps)) (answered_keeps w node tid t rest kept stands))
  happens_keep w (AnswerAt node) _ new kept (t, oldest, rest, None, tid, stands, waits, answers, done) = absurd done
  happens_keep w (AnswerAt node) _ new kept (t, oldest, rest, Some answer, tid, stands, waits, answers, done) = absurd done
  happens_keep w (Switch node) (Switched at) new kept (place, is) = let P : NetworkState → Type 0 = TerminiAreThere tables.plan in subst P (sym is) kept
  happens_keep w _ _ new kept h = absurd h

  step_keeps : (w : NetworkState) (event : EventValue) (outcome : OutcomeValue) (new : NetworkState) → TerminiAreThere tables.plan w → Step tables w event outcome new
      → TerminiAreThere tables.plan new
  step_keeps w event (Refused why) new kept h = let P : NetworkState → Type 0 = TerminiAreThere tables.plan in subst P (sym h.1) kept
  step_keeps w event outcome new kept h = happens_keep w event outcome new kept h.1

  run_keeps_termini : (w : NetworkState) (turns : List Turn) → TerminiAreThere tables.plan w → RunFrom tables w turns → TerminiAreThere tables.plan (after_all w turns)
  run_keeps_termini w [] kept run = kept
  run_keeps_termini w (turn ∷ turns) kept (step, rest) = run_keeps_termini turn.after turns (step_keeps w turn.event turn.outcome turn.after kept step) rest

  start_is_there : TerminiAreThere tables.plan (at_start tables.plan cert)
  start_is_there n t is = planned (terminus_of tables.plan n) is
    where
      planned : (o : Option PlannedTerminus) → option_map (λ (x : PlannedTerminus). record { tid = x.tid; records = records_by_place tables.plan cert n; waiting = [] }) o ≡ Some t → o ≢ None
      planned None e = absurd (cc)
      planned (Some x) e = λ none. none-some x (sym none)

  pub termini_are_there : (turns : List Turn) → RunOf tables cert turns → TerminiAreThere tables.plan (reached tables.plan cert turns)
  termini_are_there turns run = run_keeps_termini (at_start tables.plan cert) turns start_is_there run
