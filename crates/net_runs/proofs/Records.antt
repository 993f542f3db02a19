-- Termini keep their records along a run.
use Rattle.std.{proofs.Common.{◌≡◌, ℕ, ◌+◌, inl, inr, Bool, true, false, cond, List, [], ◌∷◌, Option, Some, None, sym, refl, ap, subst}, specs.Prelude.{option_map}, proofs.lemmas.Bool.Decides.{eqb_tells}, proofs.lemmas.Option.{same_Some}}
use Rattle.mctp_transport.{specs.PacketValues.{PacketValue, KeyValue}, specs.Histories.{Arrived}, specs.Hearing.{Answer, Whole, Held, Dropped}}
use Rattle.mctp_routing.specs.declared.decision.Decision.TheVariants.{Here, Drop, Forward}
use Rattle.plan_values.{specs.declared.certificate.Certificate.{Certificate}, specs.declared.terminus.PlannedTerminus.{PlannedTerminus}}
use Rattle.net_tables.{specs.Repositories.{terminus_of, records_by_place}, specs.TwoPlans.{Tables}}
use Rattle.net_runs.{specs.Termini.{TerminusState, WaitingMessage, with_waiting}, specs.States.{NetworkState, Flight, at_start, without_flight, with_made, with_input, with_terminus, with_packet, with_packets, with_received}, specs.Events.{EventValue, Put, Move, Lose, Expire, AnswerAt, Switch, OutcomeValue, PutIn, Moved, Entered, Stopped, Lost, Expired, Answered, Silent, Switched, Refused}, specs.Networks.{Step, Happens, Moves}, specs.Runs.{Turn, RunOf, RunFrom, after_all, reached}, specs.Headline.{HasPlannedRecords}}

-- what a terminus may become
pub with_terminus_keeps : (P : ℕ → TerminusState → Type 0) (w : NetworkState) (node : ℕ) (o : Option TerminusState) → ((n : ℕ) (t : TerminusState) → w.terminus n ≡ Some t → P n t)
    → ((t : TerminusState) → o ≡ Some t → P node t) → (n : ℕ) (t : TerminusState) → (with_terminus w node o).terminus n ≡ Some t → P n t
with_terminus_keeps P w node o kept changed n t is = elim (eqb_tells n node) [
  | inl same ↦
      let here : o ≡ Some t = rw same.0 at is in
      let Q : ℕ → Type 0 = λ k. P k t in
      subst Q (sym same.1) (changed t here)
  | inr other ↦ kept n t (rw other.0 at is)
]

pub mapped : (o : Option TerminusState) (m : WaitingMessage) (t : TerminusState) → option_map (λ x. with_waiting x m) o ≡ Some t → (x : TerminusState) × (o ≡ Some x) × (with_waiting x m ≡ t)
mapped None m t is = absurd (cc)
mapped (Some x) m t is = (x, refl, same_Some (with_waiting x m) t is)

-- putting packets in changes no terminus
pub packets_termini : (w : NetworkState) (node : ℕ) (ps : List PacketValue) → (with_packets w node ps).terminus ≡ w.terminus
packets_termini w node [] = refl
packets_termini w node (p ∷ ps) = packets_termini (with_packet w node p) node ps

module _ (tables : Tables) (cert : Certificate) where
  received_keeps : (w : NetworkState) (node : ℕ) (key : KeyValue) (answer : Answer) → HasPlannedRecords tables.plan cert w → HasPlannedRecords tables.plan cert (with_received w node key answer)
  received_keeps w node key (Whole message) kept =
      let item : WaitingMessage = record { key = key; bytes = message } in
      let u : NetworkState = with_terminus w node (option_map (λ t. with_waiting t item) (w.terminus node)) in
      let P : ℕ → TerminusState → Type 0 = λ n t. t.records ≡ records_by_place tables.plan cert n in
      pick key.owner u
      (with_terminus_keeps P w node (option_map (λ t. with_waiting t item) (w.terminus node)) kept (λ t is.
      let m = mapped (w.terminus node) item t is in
      let R : TerminusState → Type 0 = λ x. x.records ≡ records_by_place tables.plan cert node in
      subst R m.2 (kept node m.0 m.1)))
    where
      pick : (b : Bool) (u : NetworkState) → HasPlannedRecords tables.plan cert u → HasPlannedRecords tables.plan cert (cond b u w)
      pick true u h = h
      pick false u h = kept
  received_keeps w node key Held kept = kept
  received_keeps w node key (Dropped why) kept = kept

  moves_keep : (w : NetworkState) (k : ℕ) (f : Flight) (outcome : OutcomeValue) (new : NetworkState) → HasPlannedRecords tables.plan cert w → Moves tables w k f outcome new
      → HasPlannedRecords tables.plan cert new
  moves_keep w k f (Entered j node key answer) new kept (Here, holds, (number, at, whose, hears, is)) =
      let P : NetworkState → Type 0 = HasPlannedRecords tables.plan cert in
      subst P (sym is) (received_keeps (with_input w f.node (Arrived f.packet)) f.node key answer kept)
  moves_keep w k f (Stopped j told) new kept (Drop why, decided, (number, same, is)) = let P : NetworkState → Type 0 = HasPlannedRecords tables.plan cert in subst P (sym is) kept
  moves_keep w k f (Moved j node hops) new kept (Forward hop, decided, (number, at, more, is)) = let P : NetworkState → Type 0 = HasPlannedRecords tables.plan cert in subst P (sym is) kept
  moves_keep w k f _ new kept (_, decided, done) = absurd done

  answered_keeps : (w : NetworkState) (node tid : ℕ) (t : TerminusState) (rest : List WaitingMessage) → HasPlannedRecords tables.plan cert w → w.terminus node ≡ Some t
      → HasPlannedRecords tables.plan cert (with_terminus w node (Some (record t { tid = tid; waiting = rest })))
  answered_keeps w node tid t rest kept stands =
      let P : ℕ → TerminusState → Type 0 = λ n x. x.records ≡ records_by_place tables.plan cert n in
      let R : TerminusState → Type 0 = λ x. x.records ≡ records_by_place tables.plan cert node in
      with_terminus_keeps P w node (Some (record t { tid = tid; waiting = rest })) kept (λ x is. subst R (same_Some (record t { tid = tid; waiting = rest }) x is) (kept node t stands))

  happens_keep : (w : NetworkState) (event : EventValue) (outcome : OutcomeValue) (new : NetworkState) → HasPlannedRecords tables.plan cert w → Happens tables w event outcome new
      → HasPlannedRecords tables.plan cert new
  happens_keep w (Put node bytes) (PutIn k at) new kept (p, spelled, number, place, is) = let P : NetworkState → Type 0 = HasPlannedRecords tables.plan cert in subst P (sym is) kept
  happens_keep w (Move number false) outcome new kept (f, stands, moves) = moves_keep (without_flight w number) number f outcome new kept moves
  happens_keep w (Move number true) outcome new kept (f, stands, moves) = moves_keep (with_made w (w.made + 1)) (w.made + 1) f outcome new kept moves
  happens_keep w (Lose number) (Lost k) new kept (ended, is) = let P : NetworkState → Type 0 = HasPlannedRecords tables.plan cert in subst P (sym is) kept
  happens_keep w (Expire node key) (Expired at was_open) new kept (place, opened, is) = let P : NetworkState → Type 0 = HasPlannedRecords tables.plan cert in subst P (sym is) kept
  happens_keep w (AnswerAt node) (Silent at) new kept (t, oldest, rest, None, tid, stands, waits, answers, (place, is)) =
      let P : NetworkState → Type 0 = HasPlannedRecords tables.plan cert in subst P (sym is) (answered_keeps w node tid t rest kept stands)
  happens_keep w (AnswerAt node) (Answered at first last) new kept (t, oldest, rest, Some answer, tid, stands, waits, answers, (eid, ps, holds, packets, place, begins, ends, is)) =
      let v : NetworkState = with_terminus w node (Some (record t { tid = tid; waiting = rest })) in
      let P : NetworkState → Type 0 = HasPlannedRecords tables.plan cert in
      let T : (ℕ → Option TerminusState) → Type 0 = λ terminus. (n : ℕ) (x : TerminusState) → terminus n ≡ Some x → x.records ≡ records_by_place tables.plan cert n in
      subst P (sym is) (subst T (sym (packets_termini v node ps)) (answered_keeps w node tid t rest kept stands))
  happens_keep w (AnswerAt node) _ new kept (t, oldest, rest, None, tid, stands, waits, answers, done) = absurd done
  happens_keep w (AnswerAt node) _ new kept (t, oldest, rest, Some answer, tid, stands, waits, answers, done) = absurd done
  happens_keep w (Switch node) (Switched at) new kept (place, is) = let P : NetworkState → Type 0 = HasPlannedRecords tables.plan cert in subst P (sym is) kept
  happens_keep w _ _ new kept h = absurd h

  pub step_keeps : (w : NetworkState) (event : EventValue) (outcome : OutcomeValue) (new : NetworkState) → HasPlannedRecords tables.plan cert w → Step tables w event outcome new
      → HasPlannedRecords tables.plan cert new
  step_keeps w event (Refused why) new kept h = let P : NetworkState → Type 0 = HasPlannedRecords tables.plan cert in subst P (sym h.1) kept
  step_keeps w event outcome new kept h = happens_keep w event outcome new kept h.1

  run_keeps_records : (w : NetworkState) (turns : List Turn) → HasPlannedRecords tables.plan cert w → RunFrom tables w turns → HasPlannedRecords tables.plan cert (after_all w turns)
  run_keeps_records w [] kept run = kept
  run_keeps_records w (turn ∷ turns) kept (step, rest) = run_keeps_records turn.after turns (step_keeps w turn.event turn.outcome turn.after kept step) rest

  pub start_has_records : HasPlannedRecords tables.plan cert (at_start tables.plan cert)
  start_has_records n t is = planned (terminus_of tables.plan n) is
    where
      planned : (o : Option PlannedTerminus) → option_map (λ (x : PlannedTerminus). record { tid = x.tid; records = records_by_place tables.plan cert n; waiting = [] }) o ≡ Some t
          → t.records ≡ records_by_place tables.plan cert n
      planned None e = absurd (cc)
      planned (Some x) e =
          let made : TerminusState = record { tid = x.tid; records = records_by_place tables.plan cert n; waiting = [] } in
          ap (λ (s : TerminusState). s.records) (sym (same_Some made t e))

  pub keeps_records : (turns : List Turn) → RunOf tables cert turns → HasPlannedRecords tables.plan cert (reached tables.plan cert turns)
  keeps_records turns run = run_keeps_records (at_start tables.plan cert) turns start_has_records run
