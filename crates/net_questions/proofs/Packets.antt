-- Along a run each flight stands on the way of its packet.
use Rattle.std.{proofs.Common.{◌≡◌, ℕ, zero, suc, ◌+◌, ◌≤◌, Bool, true, false, List, [], ◌∷◌, ◌++◌, length, Some, refl, sym, ap, ◌∙◌, subst, inl, inr, arith, take}, specs.Prelude.{slice_get}, proofs.lemmas.List.{length_push}, proofs.lemmas.Option.{same_Some, slice_get_within}}
use Rattle.mctp_transport.specs.PacketValues.{PacketValue}
use Rattle.mctp_routing.{specs.declared.row.Hop.{Hop}, specs.declared.decision.Decision.{Decision}, specs.declared.decision.Decision.TheVariants.{Forward}}
use Rattle.plan_values.{specs.declared.plan.Plan.{Plan}, specs.declared.certificate.Certificate.{Certificate}}
use Rattle.net_rules.specs.Rules.{Accepts}
use Rattle.net_tables.{specs.Rows.{RowsAreApart}, specs.TwoPlans.{one_plan}}
use Rattle.net_runs.{specs.States.{NetworkState, Flight, at_start, destination, without_flight, with_made}, specs.Events.{EventValue, Move, OutcomeValue, PutIn, Moved, Entered, Stopped, Lost, Expired, Answered, Silent, Switched, Refused}, specs.Networks.{Step as OneStep, IsDone, Happens}, specs.Deliveries.{is_refusal}, specs.Runs.{Turn, RunFrom, Run, after_all, reached, PutsIn}, proofs.Nexts.{HasMoved, IsNew, IsNext, step_is_next}, proofs.Promised.{run_parts}}
use Rattle.net_questions.{specs.declared.step.WayStep.{WayStep}, specs.declared.way.End.{End}, specs.declared.way.End.TheVariants.{Arrives, Stops}, specs.Ways.{DoesAfter, Follows, IsWay, decision_of}, specs.Packets.{StandsOnWay, IsEndOf, IsNextOnWay, KeepsToWays}, proofs.WayLaws.{accepted_apart, one_step_more, does_one, same_hop, no_end}}

-- the steps that a flight has made
HasGone : Plan → Flight → Type 0
HasGone plan f = (gone : List WayStep) × (length gone ≡ f.hops) × Follows plan (destination f) 0 f.origin gone f.node

HaveGone : Plan → NetworkState → Type 0
HaveGone plan w = (number : ℕ) (f : Flight) → w.flight number ≡ Some f → HasGone plan f

module _ (plan : Plan) where
  moved_on : (w : NetworkState) (g : Flight) → HaveGone plan w → HasMoved (one_plan plan) w g → HasGone plan g
  unfolding HasGone HaveGone
  moved_on w g gone moved =
      let f = moved.flight in
      let before = gone moved.there.0 f moved.there.1 in
      let steps = before.0 ++ record { node = f.node; hop = moved.hop } ∷ [] in
      let P : Flight → Type 0 = λ h. (gone : List WayStep) × (length gone ≡ h.hops) × Follows plan (destination h) 0 h.origin gone h.node in
      subst P (sym moved.is) (
        steps,
        omega (arith, length_push before.0 (record { node = f.node; hop = moved.hop }), before.1),
        one_step_more plan (destination f) 0 f.origin before.0 f.node f.hops moved.hop (omega (arith, before.1)) before.2 moved.decided,
      )

  put_in : (puts : PacketValue → Type 0) (g : Flight) → IsNew puts g → HasGone plan g
  unfolding HasGone
  put_in puts g new =
      let P : Flight → Type 0 = λ h. (gone : List WayStep) × (length gone ≡ h.hops) × Follows plan (destination h) 0 h.origin gone h.node in
      subst P (sym new.is) ([], refl, refl)

  next_gone : (w : NetworkState) (puts : PacketValue → Type 0) (new : NetworkState) → HaveGone plan w → IsNext (one_plan plan) w puts new → HaveGone plan new
  unfolding HaveGone
  next_gone w puts new gone next number g is = elim (next.flights number g is) [
    | inl older ↦ gone older.0 g older.1
    | inr changed ↦ elim changed [ inl moved ↦ moved_on w g gone moved | inr fresh ↦ put_in puts g fresh ]
  ]

  gone_from : (w : NetworkState) (turns : List Turn) → HaveGone plan w → RunFrom (one_plan plan) w turns → HaveGone plan (after_all w turns)
  gone_from w [] gone run = gone
  gone_from w (turn ∷ turns) gone (step, rest) =
      gone_from turn.after turns
      (next_gone w (PutsIn plan turn) turn.after gone (step_is_next (one_plan plan) w turn.event turn.outcome turn.after step))
      rest

  gone_at : (cert : Certificate) (turns : List Turn) → Run plan cert turns → HaveGone plan (reached plan cert turns)
  unfolding HaveGone
  gone_at cert turns run = gone_from (at_start plan cert) turns (λ number f is. absurd (cc)) run

-- ---- on the way

module _ (plan : Plan) (e : ℕ) (apart : RowsAreApart plan) where
  -- what has been gone is a beginning of the way
  beginning : (k n : ℕ) (gone steps : List WayStep) (m last : ℕ) (end : End) → Follows plan e k n gone m → Follows plan e k n steps last
      → DoesAfter plan e (k + length steps) last (decision_of end) → (length gone ≤ length steps) × Follows plan e k n (take (length gone) steps) m
  beginning k n [] steps m last end here there ends = (omega arith, here)
  beginning k n (step ∷ gone) [] m last end (at, sent, rest) there ends =
      let k_is : k + 0 ≡ k = omega arith in
      let now : DoesAfter plan e k n (decision_of end) = subst (λ x. DoesAfter plan e k x (decision_of end)) (sym there) (subst (λ j. DoesAfter plan e j last (decision_of end)) k_is ends) in
      absurd (no_end step.hop end (does_one plan e k n apart (Forward step.hop) (decision_of end) sent now))
  beginning k n (step ∷ gone) (second ∷ steps) m last end (at, sent, rest) (at', sent', rest') ends =
      let hops : step.hop ≡ second.hop = same_hop step.hop second.hop (does_one plan e k n apart (Forward step.hop) (Forward second.hop) sent sent') in
      let k_is : k + length (second ∷ steps) ≡ suc k + length steps = omega arith in
      let nexts : step.hop.next ≡ second.hop.next = ap (λ (h : Hop). h.next) hops in
      let later = beginning (suc k) second.hop.next gone steps m last end (subst (λ x. Follows plan e (suc k) x gone m) nexts rest) rest'
      (subst (λ j. DoesAfter plan e j last (decision_of end)) k_is ends) in
      (omega (arith, later.0), (at', sent', later.1))

  -- what is done where the way goes on, and at its end
  next_step : (k n : ℕ) (steps : List WayStep) (i m last : ℕ) (step : WayStep) → Follows plan e k n steps last → Follows plan e k n (take i steps) m
      → slice_get steps i ≡ Some step → DoesAfter plan e (k + i) m (Forward step.hop)
  next_step k n [] i m last step way here is = absurd (omega (arith, slice_get_within [] i step is))
  next_step k n (first ∷ steps) zero m last step (at, sent, rest) here is =
      let k_is : k ≡ k + 0 = omega arith in
      let same : first ≡ step = same_Some first step is in
      subst (λ j. DoesAfter plan e j m (Forward step.hop)) k_is (subst (λ x. DoesAfter plan e k x (Forward step.hop)) here (subst (λ (s : WayStep). DoesAfter plan e k n (Forward s.hop)) same sent))
  next_step k n (first ∷ steps) (suc i) m last step (at, sent, rest) (at', sent', rest') is =
      let k_is : suc k + i ≡ k + suc i = omega arith in
      subst (λ j. DoesAfter plan e j m (Forward step.hop)) k_is (next_step (suc k) first.hop.next steps i m last step rest rest' is)

  same_last : (k n : ℕ) (steps : List WayStep) (m last i : ℕ) → i ≡ length steps → Follows plan e k n steps last → Follows plan e k n (take i steps) m → m ≡ last
  same_last k n [] m last i is way here = same_end i here
    where
      same_end : (i : ℕ) → Follows plan e k n (take i []) m → m ≡ last
      same_end zero here = sym here ∙ way
      same_end (suc i) here = sym here ∙ way
  same_last k n (step ∷ steps) m last zero is way here = absurd (omega (arith, is))
  same_last k n (step ∷ steps) m last (suc i) is (at, sent, rest) (at', sent', rest') = same_last (suc k) step.hop.next steps m last i (omega (arith, is)) rest rest'

stands : (plan : Plan) (f : Flight) (steps : List WayStep) (last : ℕ) (end : End) → RowsAreApart plan → HasGone plan f
    → IsWay plan (destination f) f.origin steps last end → StandsOnWay plan f steps
unfolding HasGone
stands plan f steps last end apart (gone, long, follows) way =
    let found = beginning plan (destination f) apart 0 f.origin gone steps f.node last end follows way.follows
    (subst (λ k. DoesAfter plan (destination f) k last (decision_of end)) (omega arith) way.ends) in
    (omega (arith, found.0, long), subst (λ k. Follows plan (destination f) 0 f.origin (take k steps) f.node) long found.1)

-- ---- what comes of a move

done_on : (w new : NetworkState) (number : ℕ) (f : Flight) (hop : Hop) (outcome : OutcomeValue) → IsDone w number f outcome (Forward hop) new
    → (k : ℕ) × (outcome ≡ Moved k hop.next (f.hops + 1))
done_on w new number f hop (Moved k node hops) (is, at, count, then) = (k, ap (λ n. Moved k n hops) at ∙ ap (λ c. Moved k hop.next c) count)
done_on w new number f hop (PutIn k node) done = absurd done
done_on w new number f hop (Entered k node key answer) done = absurd done
done_on w new number f hop (Stopped k why) done = absurd done
done_on w new number f hop (Lost k) done = absurd done
done_on w new number f hop (Expired node was_open) done = absurd done
done_on w new number f hop (Answered node first last) done = absurd done
done_on w new number f hop (Silent node) done = absurd done
done_on w new number f hop (Switched node) done = absurd done
done_on w new number f hop (Refused why) done = absurd done

done_end : (w new : NetworkState) (number : ℕ) (f : Flight) (end : End) (outcome : OutcomeValue) → IsDone w number f outcome (decision_of end) new → IsEndOf f end outcome
done_end w new number f Arrives (Entered k node key answer) (is, at, whose, hears, then) = (k, key, answer, ap (λ n. Entered k n key answer) at)
done_end w new number f (Stops why) (Stopped k told) (is, same, then) = (k, ap (λ x. Stopped k x) same)
done_end w new number f Arrives (PutIn k node) done = absurd done
done_end w new number f Arrives (Moved k node hops) done = absurd done
done_end w new number f Arrives (Stopped k told) done = absurd done
done_end w new number f Arrives (Lost k) done = absurd done
done_end w new number f Arrives (Expired node was_open) done = absurd done
done_end w new number f Arrives (Answered node first last) done = absurd done
done_end w new number f Arrives (Silent node) done = absurd done
done_end w new number f Arrives (Switched node) done = absurd done
done_end w new number f Arrives (Refused told) done = absurd done
done_end w new number f (Stops why) (PutIn k node) done = absurd done
done_end w new number f (Stops why) (Moved k node hops) done = absurd done
done_end w new number f (Stops why) (Entered k node key answer) done = absurd done
done_end w new number f (Stops why) (Lost k) done = absurd done
done_end w new number f (Stops why) (Expired node was_open) done = absurd done
done_end w new number f (Stops why) (Answered node first last) done = absurd done
done_end w new number f (Stops why) (Silent node) done = absurd done
done_end w new number f (Stops why) (Switched node) done = absurd done
done_end w new number f (Stops why) (Refused told) done = absurd done

next_on_way : (plan : Plan) (w new : NetworkState) (number : ℕ) (f : Flight) (outcome : OutcomeValue) (decision : Decision) (steps : List WayStep) (last : ℕ) (end : End) → RowsAreApart plan
    → DoesAfter plan (destination f) f.hops f.node decision → IsDone w number f outcome decision new → IsWay plan (destination f) f.origin steps last end
    → StandsOnWay plan f steps → IsNextOnWay f steps end outcome
next_on_way plan w new number f outcome decision steps last end apart does done way stands = record {
  on = λ step is. (
      let next = next_step plan (destination f) apart 0 f.origin steps f.hops f.node last step way.follows stands.1 is in
      let now : DoesAfter plan (destination f) f.hops f.node (Forward step.hop) = subst (λ k. DoesAfter plan (destination f) k f.node (Forward step.hop)) (omega arith) next in
      let same : decision ≡ Forward step.hop = does_one plan (destination f) f.hops f.node apart decision (Forward step.hop) does now in
      done_on w new number f step.hop outcome (subst (λ d. IsDone w number f outcome d new) same done));
  over = λ all. (
      let there : f.node ≡ last = same_last plan (destination f) apart 0 f.origin steps f.node last f.hops all way.follows stands.1 in
      let ends : DoesAfter plan (destination f) f.hops f.node (decision_of end) =
      subst (λ k. DoesAfter plan (destination f) k f.node (decision_of end)) (sym all) (subst (λ x. DoesAfter plan (destination f) (length steps) x (decision_of end)) (sym there) way.ends) in
      let same : decision ≡ decision_of end = does_one plan (destination f) f.hops f.node apart decision (decision_of end) does ends in
      done_end w new number f end outcome (subst (λ d. IsDone w number f outcome d new) same done));
}

-- a step that isn't a refusal happens
happens : (plan : Plan) (w new : NetworkState) (event : EventValue) (outcome : OutcomeValue) → is_refusal outcome ≡ false → OneStep (one_plan plan) w event outcome new
    → Happens (one_plan plan) w event outcome new
happens plan w new event (PutIn number node) none step = step.1
happens plan w new event (Moved number node hops) none step = step.1
happens plan w new event (Entered number node key answer) none step = step.1
happens plan w new event (Stopped number why) none step = step.1
happens plan w new event (Lost number) none step = step.1
happens plan w new event (Expired node was_open) none step = step.1
happens plan w new event (Answered node first last) none step = step.1
happens plan w new event (Silent node) none step = step.1
happens plan w new event (Switched node) none step = step.1
happens plan w new event (Refused why) none step = absurd (cc)

moves_so : (plan : Plan) (w new : NetworkState) (number : ℕ) (keep : Bool) (f : Flight) (outcome : OutcomeValue) (steps : List WayStep) (last : ℕ) (end : End) → RowsAreApart plan
    → w.flight number ≡ Some f → Happens (one_plan plan) w (Move number keep) outcome new → IsWay plan (destination f) f.origin steps last end
    → StandsOnWay plan f steps → IsNextOnWay f steps end outcome
moves_so plan w new number false f outcome steps last end apart there (g, is, (decision, does, done)) way stands =
    let same : g ≡ f = same_Some g f (sym is ∙ there) in
    next_on_way plan (without_flight w number) new number f outcome decision steps last end apart
    (subst (λ (h : Flight). DoesAfter plan (destination h) h.hops h.node decision) same does)
    (subst (λ h. IsDone (without_flight w number) number h outcome decision new) same done) way stands
moves_so plan w new number true f outcome steps last end apart there (g, is, (decision, does, done)) way stands =
    let same : g ≡ f = same_Some g f (sym is ∙ there) in
    next_on_way plan (with_made w (w.made + 1)) new (w.made + 1) f outcome decision steps last end apart
    (subst (λ (h : Flight). DoesAfter plan (destination h) h.hops h.node decision) same does)
    (subst (λ h. IsDone (with_made w (w.made + 1)) (w.made + 1) h outcome decision new) same done) way stands

pub keeps_to_ways : (plan : Plan) (cert : Certificate) → Accepts plan cert → KeepsToWays plan cert
unfolding HaveGone
keeps_to_ways plan cert accepted = record {
  stands = λ turns number f steps last end run there way.
      stands plan f steps last end (accepted_apart plan cert accepted) (gone_at plan cert turns run number f there) way;
  moves = λ earlier turn number keep f steps last end run there event went way. (
      let parts = run_parts (one_plan plan) (at_start plan cert) earlier turn run in
      let on = stands plan f steps last end (accepted_apart plan cert accepted) (gone_at plan cert earlier parts.0 number f there) way in
      let happened = happens plan (reached plan cert earlier) turn.after turn.event turn.outcome went parts.1 in
      moves_so plan (reached plan cert earlier) turn.after number keep f turn.outcome steps last end (accepted_apart plan cert accepted) there
      (subst (λ e. Happens (one_plan plan) (reached plan cert earlier) e turn.outcome turn.after) event happened) way on);
}
