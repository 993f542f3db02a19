-- A message that comes is told by the turn with which it comes.
use Rattle.std.{proofs.Common.{◌≡◌, ℕ, ◌+◌, true, false, List, [], ◌∷◌, length, Some, None, sym, refl, ap, ◌∙◌, subst, inl, inr, arith, length-append}, proofs.lemmas.Bool.Decides.{eqb_tells}}
use Rattle.mctp_transport.{specs.PacketValues.{PacketValue, KeyValue, key_of}, specs.Histories.{Input, Arrived, TimeUp, History, after, Comes}, specs.Hearing.{Answer, Whole, Hears}, proofs.Openness.{last_input}, proofs.FirstIndexes.{snoc_same}, proofs.Verdicts.{hears_one}}
use Rattle.mctp_routing.specs.declared.decision.Decision.TheVariants.{Here, Drop, Forward}
use Rattle.net_runs.{specs.States.{NetworkState, Flight, without_flight, with_made, with_input, with_terminus, slots, limit}, specs.Events.{EventValue, Put, Move, Lose, Expire, AnswerAt, Switch, OutcomeValue, PutIn, Moved, Entered, Stopped, Lost, Expired, Answered, Silent, Switched, Refused}, specs.Networks.{Step, Happens, Moves}, specs.ExactMessages.{ComesAt, TellsWhatComes}, proofs.Nexts.{received_same}, proofs.AtRest.{packets_history}}
use Rattle.net_tables.specs.TwoPlans.{Tables}

unchanged : (h new : History) (i : Input) → new ≡ h → new ≡ after h i → ⊥
unchanged h new i same more = omega (arith, ap length (sym same ∙ more), length-append h (i ∷ []))

abbrev IsTold : ℕ → KeyValue → List ℕ → OutcomeValue → Type 0
IsTold n key message outcome = (number : ℕ) × (outcome ≡ Entered number n key (Whole message))

module _ (tables : Tables) (n : ℕ) (key : KeyValue) (message : List ℕ) where
  not_here : (w new : NetworkState) (outcome : OutcomeValue) → ComesAt w new n key message → new.history n ≡ w.history n → IsTold n key message outcome
  not_here w new outcome comes same = absurd (unchanged (w.history n) (new.history n) (Arrived comes.packet) same comes.entered)

  -- what is heard of the packet with which the message comes is the message
  whole_is_heard : (h new : History) (p q : PacketValue) (j : ℕ) (told : KeyValue) (answer : Answer) → told ≡ key_of p → key_of q ≡ key → new ≡ after h (Arrived p) → new ≡ after h (Arrived q)
      → Hears slots limit h p answer → Comes slots limit new message → IsTold n key message (Entered j n told answer)
  whole_is_heard h new p q j told answer whose mine here there hears came =
      let same : p ≡ q = (last_input h h p q (sym here ∙ there)).1 in
      let C : History → Type 0 = λ x. Comes slots limit x message in
      let one : answer ≡ Whole message = hears_one slots limit h p answer (Whole message) hears (subst C here came) in
      let k : told ≡ key = whose ∙ ap key_of same ∙ mine in
      (j, λ i. Entered j n (k i) (one i))

  moves_told : (v : NetworkState) (k : ℕ) (f : Flight) (outcome : OutcomeValue) (new : NetworkState) → Moves tables v k f outcome new → ComesAt v new n key message
      → IsTold n key message outcome
  moves_told v k f (Entered j node told answer) new (Here, holds, (number, at, whose, hears, is)) comes =
      let entered : NetworkState = with_input v f.node (Arrived f.packet) in
      let kept : new.history n ≡ entered.history n =
      ap (λ (u : NetworkState). u.history n) is ∙ ap (λ history. history n) (received_same entered f.node told answer).history in
      elim (eqb_tells n f.node) [
        | inl same ↦
            let grown : entered.history n ≡ after (v.history n) (Arrived f.packet) = rw same.0 refl in
            let H : ℕ → Type 0 = λ m. Hears slots limit (v.history m) f.packet answer in
            let result = whole_is_heard (v.history n) (new.history n) f.packet comes.packet j told answer whose comes.of_key (kept ∙ grown) comes.entered (subst H (sym same.1) hears) comes.comes in
            let here : n ≡ node = same.1 ∙ sym at in
            let O : ℕ → Type 0 = λ m. IsTold n key message (Entered j m told answer) in
            subst O here result
        | inr other ↦ not_here v new (Entered j node told answer) comes (kept ∙ rw other.0 refl)
      ]
  moves_told v k f (Stopped j why) new (Drop drop, decided, (number, same, is)) comes = not_here v new (Stopped j why) comes (ap (λ (u : NetworkState). u.history n) is)
  moves_told v k f (Moved j node hops) new (Forward hop, decided, (number, at, more, is)) comes = not_here v new (Moved j node hops) comes (ap (λ (u : NetworkState). u.history n) is)
  moves_told v k f _ new (_, decided, done) comes = absurd done

  happens_told : (w : NetworkState) (event : EventValue) (outcome : OutcomeValue) (new : NetworkState) → Happens tables w event outcome new → ComesAt w new n key message
      → IsTold n key message outcome
  happens_told w (Put node bytes) (PutIn k at) new (p, spelled, number, place, is) comes = not_here w new (PutIn k at) comes (ap (λ (u : NetworkState). u.history n) is)
  happens_told w (Move number false) outcome new (f, stands, moves) comes =
      moves_told (without_flight w number) number f outcome new moves (record { packet = comes.packet; entered = comes.entered; of_key = comes.of_key; comes = comes.comes })
  happens_told w (Move number true) outcome new (f, stands, moves) comes =
      moves_told (with_made w (w.made + 1)) (w.made + 1) f outcome new moves (record { packet = comes.packet; entered = comes.entered; of_key = comes.of_key; comes = comes.comes })
  happens_told w (Lose number) (Lost k) new (ended, is) comes = not_here w new (Lost k) comes (ap (λ (u : NetworkState). u.history n) is)
  happens_told w (Expire node word) (Expired at was_open) new (place, opened, is) comes = elim (eqb_tells n node) [
    | inl same ↦
        let grown : new.history n ≡ after (w.history n) (TimeUp word) = ap (λ (u : NetworkState). u.history n) is ∙ rw same.0 refl in
        absurd (apart (snoc_same (w.history n) (w.history n) (Arrived comes.packet) (TimeUp word) (sym comes.entered ∙ grown)).1)
    | inr other ↦ not_here w new (Expired at was_open) comes (ap (λ (u : NetworkState). u.history n) is ∙ rw other.0 refl)
  ]
    where
      apart : {p : PacketValue} {k : KeyValue} → ◌≡◌ {A = Input} (Arrived p) (TimeUp k) → ⊥
      apart e = cc
  happens_told w (AnswerAt node) (Silent at) new (t, oldest, rest, None, tid, stands, waits, answers, (place, is)) comes = not_here w new (Silent at) comes (ap (λ (u : NetworkState). u.history n) is)
  happens_told w (AnswerAt node) (Answered at first last) new (t, oldest, rest, Some answer, tid, stands, waits, answers, (eid, ps, holds, packets, place, begins, ends, is)) comes =
      let v : NetworkState = with_terminus w node (Some (record t { tid = tid; waiting = rest })) in
      not_here w new (Answered at first last) comes (ap (λ (u : NetworkState). u.history n) is ∙ ap (λ history. history n) (packets_history v node ps))
  happens_told w (AnswerAt node) _ new (t, oldest, rest, None, tid, stands, waits, answers, done) comes = absurd done
  happens_told w (AnswerAt node) _ new (t, oldest, rest, Some answer, tid, stands, waits, answers, done) comes = absurd done
  happens_told w (Switch node) (Switched at) new (place, is) comes = not_here w new (Switched at) comes (ap (λ (u : NetworkState). u.history n) is)
  happens_told w _ _ new h comes = absurd h

  step_told : (w : NetworkState) (event : EventValue) (outcome : OutcomeValue) (new : NetworkState) → Step tables w event outcome new → ComesAt w new n key message
      → IsTold n key message outcome
  step_told w event (Refused why) new h comes = not_here w new (Refused why) comes (ap (λ (u : NetworkState). u.history n) h.1)
  step_told w event outcome new h comes = happens_told w event outcome new h.1 comes

pub tells_what_comes : (tables : Tables) → TellsWhatComes tables
tells_what_comes tables w event outcome new n key message step comes = step_told tables n key message w event outcome new step comes
