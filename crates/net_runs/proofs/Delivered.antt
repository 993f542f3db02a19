-- A flight whose destination is held moves on until it enters, within its certified hops.
use Rattle.std.{proofs.Common.{◌≡◌, ◌≢◌, ◌⊎◌, ℕ, suc, ◌+◌, ◌≤◌, Bool, true, false, not, List, [], ◌∷◌, ◌++◌, length, Some, None, sym, refl, ◌∙◌, subst, inl, inr, arith}, specs.List.{AllByRecursion}, proofs.lemmas.List.Elements.{recursion_from_All}, proofs.lemmas.Option.{same_Some, none-some}}
use Rattle.mctp_transport.specs.PacketValues.{PacketValue}
use Rattle.plan_values.specs.declared.certificate.Certificate.{Certificate}
use Rattle.net_tables.{specs.Routing.{Holds, IsBridge}, proofs.TableLaws.{routed, named}, specs.Ranks.{rank}, specs.TwoPlans.{Tables, HasRowAlways}, specs.Lawful.{IsLawful}}
use Rattle.mctp_routing.{specs.declared.row.Hop.{Hop}, specs.declared.decision.ForwardFault.{ForwardFault}, specs.declared.decision.ForwardFault.TheVariants.{Unassignable, NoBridge, NoRow}, specs.declared.decision.Decision.TheVariants.{Here, Drop, Forward}}
use Rattle.net_runs.{specs.States.{NetworkState, Flight, at_start, destination, without_flight, with_made, rows_now}, specs.Events.{EventValue, Move, OutcomeValue, Stopped, Lost}, specs.Networks.{Step, Moves, IsDecided}, specs.Runs.{Turn, RunOf, RunFrom, after_all, reached, PutsIn}, specs.Deliveries.{IsDeliverable, moves_of, IsNotLost, HasEntered, IsOnItsWay, DeliversBy}, proofs.Nexts.{HasMoved, IsNew, step_is_next}, proofs.RowsNow.{row_now}, proofs.Kept.{Kept, at_start_keeps, next_keeps}, proofs.Fates.{counts, moved_to, step_fate}, proofs.Promised.{run_parts}, proofs.Below.{after_joins}}

-- the flight is where its destination is held, or where it is forwarded along a row
abbrev pub IsOnRoute : Tables → Flight → Type 0
IsOnRoute tables f = Holds tables.plan f.node (destination f) ⊎ ((IsBridge tables.plan f.node ⊎ (f.hops ≡ 0)) × HasRowAlways tables f.node (destination f))

-- what is kept: what every run keeps, and that each flight that can be delivered is on its route
pub record IsReady (tables : Tables) (cert : Certificate) (w : NetworkState) : Type 0 where
  pub kept : Kept tables cert (λ p. Unit {0}) w
  pub routed : (number : ℕ) (f : Flight) → w.flight number ≡ Some f → IsDeliverable tables f → IsOnRoute tables f

start_is_ready : (tables : Tables) (cert : Certificate) → IsReady tables cert (at_start tables.plan cert)
start_is_ready tables cert = record { kept = at_start_keeps tables cert (λ p. Unit {0}); routed = λ number f is. absurd (cc) }

module _ (tables : Tables) (cert : Certificate) (lawful : IsLawful tables cert) where
  moved_on_route : (w : NetworkState) (g : Flight) → HasMoved tables w g → IsDeliverable tables g → IsOnRoute tables g
  moved_on_route w g moved deliverable =
      let f = moved.flight in
      let P : Flight → Type 0 = λ h. IsDeliverable tables h → IsOnRoute tables h in
      let now : IsDeliverable tables (moved_to f moved.hop) → IsOnRoute tables (moved_to f moved.hop) = λ d.
      let holder = d.0.0 in
      let away : holder ≢ f.node = λ same. let H : ℕ → Type 0 = λ n. Holds tables.plan n (destination f) in moved.decided.0 (subst H same d.0.1) in
      let names = named (rows_now tables w f.node) (destination f) moved.hop moved.decided.3 in
      elim (lawful.led (w.switched f.node) f.node (destination f) moved.hop.next names holder d.0.1 away) [
        | inl here ↦ inl here
        | inr (bridge, row) ↦ inr (inl bridge, row)
      ] in
      subst P (sym moved.is) now deliverable

  new_on_route : (puts : PacketValue → Type 0) (g : Flight) → IsNew puts g → IsDeliverable tables g → IsOnRoute tables g
  new_on_route puts g new deliverable =
      let P : Flight → Type 0 = λ h. IsDeliverable tables h → IsOnRoute tables h in
      subst P (sym new.is) (λ d. elim d.1 [ inl holds ↦ inl holds | inr row ↦ inr (inr refl, row) ]) deliverable

  step_is_ready : (w : NetworkState) (turn : Turn) → IsReady tables cert w → Step tables w turn.event turn.outcome turn.after → IsReady tables cert turn.after
  step_is_ready w turn ready step =
      let next = step_is_next tables w turn.event turn.outcome turn.after step in
      record {
        kept = next_keeps tables cert (λ p. Unit {0}) lawful w (PutsIn tables.plan turn) turn.after ready.kept (λ p put. tt) next;
        routed = λ number g is deliverable. elim (next.flights number g is) [
          | inl (older, there) ↦ ready.routed older g there deliverable
          | inr changed ↦ elim changed [ inl moved ↦ moved_on_route w g moved deliverable | inr new ↦ new_on_route (PutsIn tables.plan turn) g new deliverable ]
        ];
      }

  run_is_ready : (w : NetworkState) (turns : List Turn) → IsReady tables cert w → RunFrom tables w turns → IsReady tables cert (after_all w turns)
  run_is_ready w [] ready run = ready
  run_is_ready w (turn ∷ turns) ready (step, rest) = run_is_ready turn.after turns (step_is_ready w turn ready step) rest

  -- no flight on its route is stopped
  never_ends : (w : NetworkState) (f : Flight) (why : ForwardFault) → IsDeliverable tables f → IsOnRoute tables f
      → IsDecided tables.plan (rows_now tables w f.node) f (Drop why) → ⊥
  never_ends w f Unassignable deliverable route (away, not) = not (lawful.eids deliverable.0.0 (destination f) deliverable.0.1)
  never_ends w f NoBridge deliverable route (away, may, stays) = elim route [ inl here ↦ away here | inr goes ↦ stays goes.0 ]
  never_ends w f NoRow deliverable route (away, may, goes, none) = elim route [
    | inl here ↦ away here
    | inr on ↦
        let now = row_now tables w f.node (destination f) on.1 in
        let h = routed (rows_now tables w f.node) (destination f) now.0 now.1 in
        none h.0 h.1
  ]

  -- a flight that has gone doesn't come back
  gone_stays : (w : NetworkState) (number : ℕ) (turns : List Turn) → number ≤ w.made → w.flight number ≡ None → RunFrom tables w turns → length (moves_of number turns) ≡ 0
  gone_stays w number [] old gone run = refl
  gone_stays w number (turn ∷ turns) old gone (step, rest) =
      let next = step_is_next tables w turn.event turn.outcome turn.after step in
      let made = next.made in
      let later : turn.after.flight number ≡ None → length (moves_of number turns) ≡ 0 = λ none. gone_stays turn.after number turns (omega arith) none rest in
      elim (step_fate tables w number turn.event turn.outcome turn.after old step) [
        | inl same ↦ rw same.uncounted (later (same.flight ∙ gone))
        | inr changed ↦ elim changed [
          | inl lost ↦ rw lost.uncounted (later lost.gone)
          | inr moved ↦ absurd (none-some moved.flight (sym gone ∙ moved.stood))
        ]
      ]

  -- what becomes of the flight within the turns
  abbrev Becomes : ℕ → Flight → List Turn → NetworkState → Type 0
  Becomes number f turns new =
      IsOnItsWay number f turns new
      ⊎ (HasEntered tables.plan (destination f) number turns × (f.hops + length (moves_of number turns) ≤ rank cert f.origin (destination f) + 1))

  -- the same with one turn more before
  entered_later : (e number : ℕ) (turn : Turn) (turns : List Turn) → HasEntered tables.plan e number turns → HasEntered tables.plan e number (turn ∷ turns)
  entered_later e number turn turns h = record {
    index = suc h.index;
    turn = h.turn;
    there = h.there;
    node = h.node;
    key = h.key;
    answer = h.answer;
    enters = h.enters;
    holds = h.holds;
  }

  becomes_untouched : (number : ℕ) (f : Flight) (turn : Turn) (turns : List Turn) (new : NetworkState) → counts number turn.event turn.outcome ≡ false
      → Becomes number f turns new → Becomes number f (turn ∷ turns) new
  becomes_untouched number f turn turns new uncounted (inl way) = inl (record {
    flight = way.flight;
    stands = way.stands;
    packet = way.packet;
    origin = way.origin;
    hops = rw uncounted way.hops;
  })
  becomes_untouched number f turn turns new uncounted (inr (entered, few)) = inr (entered_later (destination f) number turn turns entered, rw uncounted few)

  becomes_moved : (number : ℕ) (next : Hop) (f : Flight) (turn : Turn) (turns : List Turn) (new : NetworkState) → counts number turn.event turn.outcome ≡ true
      → Becomes number (moved_to f next) turns new → Becomes number f (turn ∷ turns) new
  becomes_moved number next f turn turns new counted (inl way) = inl (record {
    flight = way.flight;
    stands = way.stands;
    packet = way.packet;
    origin = way.origin;
    hops = rw counted (let h = way.hops in omega arith);
  })
  becomes_moved number next f turn turns new counted (inr (entered, few)) = inr (entered_later (destination f) number turn turns entered, rw counted (omega arith))

  track : (w : NetworkState) (turns : List Turn) (number : ℕ) (f : Flight) → IsReady tables cert w → RunFrom tables w turns → w.flight number ≡ Some f → IsDeliverable tables f
      → AllByRecursion (λ turn. turn.outcome ≢ Lost number) turns → Becomes number f turns (after_all w turns)
  track w [] number f ready run stands deliverable kept = inl (record { flight = f; stands = stands; packet = refl; origin = refl; hops = omega arith })
  track w (turn ∷ turns) number f ready (step, rest) stands deliverable (not_lost, kept) =
      let old = ready.kept.numbers number f stands in
      let then_ready = step_is_ready w turn ready step in
      elim (step_fate tables w number turn.event turn.outcome turn.after old step) [
        | inl same ↦
            becomes_untouched number f turn turns (after_all turn.after turns) same.uncounted
            (track turn.after turns number f then_ready rest (same.flight ∙ stands) deliverable kept)
        | inr changed ↦ elim changed [
          | inl lost ↦ absurd (not_lost lost.lost)
          | inr moved ↦
              let F : Flight → Type 0 = λ g. Becomes number g (turn ∷ turns) (after_all turn.after turns) in
              let same : f ≡ moved.flight = same_Some f moved.flight (sym stands ∙ moved.stood) in
              let D : Flight → Type 0 = IsDeliverable tables in
              let deliverable' : IsDeliverable tables moved.flight = subst D same deliverable in
              let g = moved.flight in
              subst F (sym same)
              (elim moved.made_of_it [
                | inl (holds, gone, (key, answer, enters)) ↦
                    let made = (step_is_next tables w turn.event turn.outcome turn.after step).made in
                    let none = gone_stays turn.after number turns (omega arith) gone rest in
                    let within = (ready.kept.flights number g moved.stood).0 in
                    inr (
                      record {
                        index = 0;
                        turn = turn;
                        there = refl;
                        node = g.node;
                        key = key;
                        answer = answer;
                        enters = enters;
                        holds = holds;
                      },
                      rw moved.counted (omega (arith, none, within)),
                    )
                | inr other ↦ elim other [
                  | inl (why, ends) ↦ absurd (never_ends w g why deliverable' (ready.routed number g moved.stood deliverable') ends)
                  | inr (next, decided, there) ↦
                      becomes_moved number next g turn turns (after_all turn.after turns) moved.counted
                      (track turn.after turns number (moved_to g next) then_ready rest there deliverable' kept)
                ]
              ])
        ]
      ]

  -- a run is one up to a turn, and one from there
  run_splits : (w : NetworkState) (earlier later : List Turn) → RunFrom tables w (earlier ++ later) → RunFrom tables w earlier × RunFrom tables (after_all w earlier) later
  run_splits w [] later run = (tt, run)
  run_splits w (turn ∷ earlier) later (step, rest) = let h = run_splits turn.after earlier later rest in ((step, h.0), h.1)

  becomes : (earlier later : List Turn) (number : ℕ) (f : Flight) → RunOf tables cert (earlier ++ later) → (reached tables.plan cert earlier).flight number ≡ Some f
      → IsDeliverable tables f → IsNotLost number later → Becomes number f later (reached tables.plan cert (earlier ++ later))
  becomes earlier later number f run stands deliverable kept =
      let parts = run_splits (at_start tables.plan cert) earlier later run in
      let ready = run_is_ready (at_start tables.plan cert) earlier (start_is_ready tables cert) parts.0 in
      let B : NetworkState → Type 0 = Becomes number f later in
      subst B (sym (after_joins (at_start tables.plan cert) earlier later))
      (track (reached tables.plan cert earlier) later number f ready parts.1 stands deliverable (recursion_from_All (λ turn. turn.outcome ≢ Lost number) later kept))

  -- a flight on its way has made no more moves than it is certified
  few_hops : (turns later : List Turn) (number : ℕ) (f : Flight) → RunOf tables cert turns → IsOnItsWay number f later (reached tables.plan cert turns)
      → f.hops + length (moves_of number later) ≤ rank cert f.origin (destination f)
  few_hops turns later number f run way =
      let ready = run_is_ready (at_start tables.plan cert) turns (start_is_ready tables cert) run in
      let within = (ready.kept.flights number way.flight way.stands).0 in
      let R : PacketValue → Type 0 = λ p. way.flight.hops + rank cert way.flight.node p.destination ≤ rank cert way.flight.origin p.destination in
      let O : ℕ → Type 0 = λ n. way.flight.hops + rank cert way.flight.node (destination f) ≤ rank cert n (destination f) in
      let h = subst O way.origin (subst R way.packet within) in
      let hops = way.hops in
      omega arith

  -- what a move that ends a flight has decided
  stopped_by : (v : NetworkState) (k j : ℕ) (f : Flight) (why : ForwardFault) (new : NetworkState) → Moves tables v k f (Stopped j why) new → IsDecided tables.plan (rows_now tables v f.node) f (Drop why)
  stopped_by v k j f why new (Here, decided, done) = absurd done
  stopped_by v k j f why new (Drop other, decided, (same, told, is)) = let D : ForwardFault → Type 0 = λ o. IsDecided tables.plan (rows_now tables v f.node) f (Drop o) in subst D (sym told) decided
  stopped_by v k j f why new (Forward hop, decided, done) = absurd done

  step_stopped : (w : NetworkState) (number : ℕ) (keep : Bool) (f : Flight) (k : ℕ) (why : ForwardFault) (new : NetworkState) → w.flight number ≡ Some f
      → Step tables w (Move number keep) (Stopped k why) new → IsDecided tables.plan (rows_now tables w f.node) f (Drop why)
  step_stopped w number false f k why new stands (may, (g, stood, moves)) =
      let D : Flight → Type 0 = λ h. IsDecided tables.plan (rows_now tables w h.node) h (Drop why) in
      subst D (same_Some g f (sym stood ∙ stands)) (stopped_by (without_flight w number) number k g why new moves)
  step_stopped w number true f k why new stands (may, (g, stood, moves)) =
      let D : Flight → Type 0 = λ h. IsDecided tables.plan (rows_now tables w h.node) h (Drop why) in
      subst D (same_Some g f (sym stood ∙ stands)) (stopped_by (with_made w (w.made + 1)) (w.made + 1) k g why new moves)

  pub lawful_delivers : DeliversBy tables cert
  lawful_delivers = record {
    stops_none = λ earlier turn number keep f k why run stands deliverable event outcome.
        let parts = run_parts tables (at_start tables.plan cert) earlier turn run in
        let ready = run_is_ready (at_start tables.plan cert) earlier (start_is_ready tables cert) parts.0 in
        let E : EventValue → Type 0 = λ e. Step tables (reached tables.plan cert earlier) e turn.outcome turn.after in
        let O : OutcomeValue → Type 0 = λ o. Step tables (reached tables.plan cert earlier) (Move number keep) o turn.after in
        never_ends (reached tables.plan cert earlier) f why deliverable (ready.routed number f stands deliverable)
        (step_stopped (reached tables.plan cert earlier) number keep f k why turn.after stands (subst O outcome (subst E event parts.1)));
    stays = λ earlier later number f run stands deliverable kept.
        elim (becomes earlier later number f run stands deliverable kept) [ inl way ↦ inl way | inr (entered, few) ↦ inr entered ];
    enters = λ earlier later number f run stands deliverable kept many.
        elim (becomes earlier later number f run stands deliverable kept) [
          | inl way ↦ absurd (omega (arith, few_hops (earlier ++ later) later number f run way))
          | inr (entered, few) ↦ entered
        ];
    most = λ earlier later number f run stands deliverable kept.
        elim (becomes earlier later number f run stands deliverable kept) [
          | inl way ↦ omega (arith, few_hops (earlier ++ later) later number f run way)
          | inr (entered, few) ↦ few
        ];
  }
