-- At every moment of a run with walkers, each has walked over the records of the terminus that it asks.
use Rattle.std.{proofs.Common.{Option, ◌≡◌, ◌⊎◌, ℕ, ◌+◌, ◌*◌, ◌≤◌, List, [], ◌∷◌, ◌++◌, length, Some, None, Result, Ok, refl, sym, ap, ◌∙◌, subst, inl, inr, arith}, specs.List.{AllByRecursion}, proofs.lemmas.Bool.{cases_lt}, proofs.lemmas.List.{append_assoc, append-nil}, proofs.lemmas.Bool.Decides.{eqb_tells}, proofs.lemmas.List.Elements.{recursion_from_All}, proofs.lemmas.Option.{same_Some}}
use Rattle.pldm_message.specs.Pdrs.{PartRequest}
use Rattle.pdr_repository.{specs.Records.{IsLawful, bytes_by_place}, specs.Walks.{Exchange, Walk, IsBeginning, exchanges, due_after}, specs.Walkers.{WalkState, fresh}, specs.declared.walk_fault.Step.{Step as WalkStep}, specs.declared.walk_fault.WalkFault.{WalkFault}, proofs.Collecting.{collects_once}, proofs.Taking.{fresh_stands}, proofs.Walks.{every_walk_collects}}
use Rattle.net_runs.{proofs.Units.{five_fit, part_fits}, specs.States.{NetworkState, unit_of}, specs.Events.{EventValue, Put, OutcomeValue, PutIn, N01}, specs.Walkers.{WalkerValue, WalkedState, WalkedEvent, Happening, BeginWalk, Ask, TellWalk, WalkedOutcome, Happened, Begun, Asked, ToldWalk, WalkRefused, WalkRefusal, Also, N10, Handed, walked_at_start, fresh_walker, with_walker, IsWalkRefused, ended_after, most_records, most_bytes, five_packets}, specs.WalkedRuns.{IsFor, WalkedHappens, WalkedStep, WalkedTurn, WalkedRunFrom, walked_after, walked_reached}, specs.NetworkWalks.{TakesWith, TakesNone, AreTakenIn, KeepsOff, HasWalked, HasCode, WalksThere, WalksOverBy}, proofs.ByPlace.{is_lawful}, proofs.Steps.{holds_some}, proofs.UnderWay.{PutsOnlyThis}, proofs.Soundness.{IsSound, IsAlike, step_sound, run_sound, start_sound}, proofs.Below.{walked_splits, walked_after_splits}, proofs.Walking.{Walks, Phase, Grows, phase_keeps, hears}, proofs.NewRequests.{own_ask, other_ask}}
use Rattle.net_tables.{specs.TwoPlans.{Tables}, specs.Routing.{Holds}, specs.Repositories.{records_of, places_of, records_by_place, RecordsHaveOrder}}
use Rattle.plan_values.specs.declared.certificate.Certificate.{Certificate}

same_handed : (a b : OutcomeValue) (x y : Handed) → ◌≡◌ {A = WalkedOutcome} (Happened a (Some x)) (Happened b (Some y)) → x ≡ y
same_handed a b x y e = cc

module _ (tables : Tables) (cert : Certificate) (own n k : ℕ) (first : WalkerValue) (home : Holds tables.plan first.node own) (one_home : (m : ℕ) → Holds tables.plan m own → m ≡ first.node)
    (alone_asked : (m : ℕ) → Holds tables.plan m first.eid → m ≡ n) (lawful : IsLawful (records_by_place tables.plan cert n))
    (least : 8 ≤ first.walk.count) (most : first.walk.count ≤ 4079) (few : first.walk.count + 17 ≤ 5 * (unit_of tables.plan)) where
  abbrev PhaseOf : NetworkState → WalkState → Type 0
  PhaseOf w walk = Phase tables cert own n first home alone_asked lawful least most few w walk

  -- the walker at this moment
  pub record WalksNow (w : WalkedState) : Type 0 where
    pub walker : WalkerValue
    pub there : w.walker k ≡ Some walker
    pub walks : Walks tables.plan cert n first walker
    pub phase : PhaseOf w.network walker.walk

  abbrev Codes : WalkerValue → WalkedOutcome → Type 0
  Codes walker outcome = (o : OutcomeValue) (result : Result WalkStep WalkFault) → outcome ≡ Happened o (Some (record { number = k; result = result })) → HasCode walker result

  -- with the outcome no exchange is taken, or this one is
  GrowsBy : WalkedState → WalkedOutcome → List Exchange → List Exchange → Type 0
  GrowsBy w outcome old more = (TakesNone k outcome × (more ≡ old)) ⊎ ((x : Exchange) × TakesWith k w outcome x × (more ≡ old ++ x ∷ []))

  -- the walker after a step, and what it has made of a message
  record StepsOn (w : WalkedState) (now : WalksNow w) (outcome : WalkedOutcome) (new : WalkedState) : Type 0 where
    next : WalksNow new
    codes : Codes now.walker outcome
    grown : GrowsBy w outcome now.walks.taken next.walks.taken

  -- the network, the number and the walkers of before
  unmoved : (w new : WalkedState) (now : WalksNow w) (outcome : WalkedOutcome) → new.network ≡ w.network → new.walker k ≡ w.walker k → Codes now.walker outcome → TakesNone k outcome → StepsOn w now outcome new
  unfolding GrowsBy
  unmoved w new now outcome network walker codes none =
      let P : NetworkState → Type 0 = λ u. PhaseOf u now.walker.walk in
      record {
        next = record { walker = now.walker; there = walker ∙ now.there; walks = now.walks; phase = subst P (sym network) now.phase };
        codes = codes;
        grown = inl (none, refl);
      }

  -- what it makes of a message that it is handed
  handed_grows : (w : WalkedState) (outcome : OutcomeValue) (handed : Handed) (walker : WalkerValue) (message : List ℕ) (old before more : List Exchange) → k ≡ handed.number → w.walker k ≡ Some walker
      → IsFor walker outcome message → before ≡ old → Grows walker message handed.result before more → GrowsBy w (Happened outcome (Some handed)) old more
  unfolding GrowsBy
  handed_grows w outcome handed walker message old before more mine there meant same (inl (none, is)) = inl (
    λ lower step e. none step (ap (λ (h : Handed). h.result) (same_handed outcome lower handed (record { number = k; result = Ok step }) e)),
    is ∙ same,
  )
  handed_grows w outcome handed walker message old before more mine there meant same (inr (x, step, told, exchange, is)) = inr (
    x,
    record {
      lower = outcome;
      step = step;
      told = λ j. Happened outcome (Some (record { number = sym mine j; result = told j }));
      walker = walker;
      there = there;
      message = message;
      meant = meant;
      exchange = exchange;
    },
    is ∙ ap (λ (ts : List Exchange). ts ++ x ∷ []) same,
  )

  off_only : (event : EventValue) (outcome : OutcomeValue) (handed : Option Handed) → KeepsOff tables.plan first (Happening event) (Happened outcome handed) → (id : ℕ) (r : PartRequest) → PutsOnlyThis tables cert own first.eid first.tag n alone_asked lawful id r event outcome
  off_only event outcome handed off id r at flight node bytes p is told spelled = (
    λ mine there. absurd (off at flight node bytes handed p (ap Happening is) (ap (λ o. Happened o handed) told) spelled (own, home, inl (mine, there))),
    λ mine there. off at flight node bytes handed p (ap Happening is) (ap (λ o. Happened o handed) told) spelled (own, home, inr (mine, there)),
  )

  happens_walks : (w : WalkedState) (event : WalkedEvent) (outcome : WalkedOutcome) (new : WalkedState) → IsSound tables.plan cert w → (now : WalksNow w) → KeepsOff tables.plan first event outcome
      → ((why : WalkRefusal) → ¬ IsWalkRefused tables.plan w event why) → WalkedHappens tables w event outcome new → StepsOn w now outcome new
  unfolding GrowsBy
  happens_walks w (Happening event) (Happened outcome None) new sound now off may (step, none, same, begun) = record {
    next = record {
      walker = now.walker;
      there = ap (λ walkers. walkers k) same ∙ now.there;
      walks = now.walks;
      phase = phase_keeps tables cert own n first home alone_asked lawful least most few w.network event outcome new.network now.walker.walk sound.plain step
          (λ id r _ _. off_only event outcome None off id r) now.phase;
    };
    codes = λ o result e. absurd (cc);
    grown = inl (λ lower s e. absurd (cc), refl);
  }
  happens_walks w (Happening event) (Happened outcome (Some handed)) new sound now off may (step, given, begun) =
      let after_it : WalkerValue = record given.walker { walk = given.walk; ids = given.ids; ended = ended_after given.walker.ended handed.result } in
      let phase = phase_keeps tables cert own n first home alone_asked lawful least most few w.network event outcome new.network now.walker.walk sound.plain step
      (λ id r _ _. off_only event outcome (Some handed) off id r) now.phase in
      elim (eqb_tells k handed.number) [
        | inl same ↦
            let is : now.walker ≡ given.walker = same_Some now.walker given.walker (sym now.there ∙ ap w.walker same.1 ∙ given.there) in
            let W : WalkerValue → Type 0 = λ x. (v : Walks tables.plan cert n first x) × (v.taken ≡ now.walks.taken) in
            let P : NetworkState → WalkerValue → Type 0 = λ u x. PhaseOf u x.walk in
            let moved = subst W is (now.walks, refl) in
            let g = hears tables cert own n first home alone_asked lawful least most few w.network event outcome new.network given.walker given.message handed.result given.walk
            moved.0 (subst (P w.network) is now.phase) (subst (P new.network) is phase) step given.meant given.takes given.memory in
            let done = g.goes after_it refl refl refl refl refl in
            record {
              next = record {
                walker = after_it;
                there = ap (λ walkers. walkers k) given.is ∙ rw same.0 refl;
                walks = done.0;
                phase = g.phase;
              };
              codes = λ o result e.
                  subst (λ r. HasCode now.walker r) (ap (λ (h : Handed). h.result) (same_handed outcome o handed (record { number = k; result = result }) e))
                  (subst (λ x. HasCode x handed.result) (sym is) g.code);
              grown = handed_grows w outcome handed given.walker given.message now.walks.taken moved.0.taken done.0.taken same.1 (ap w.walker same.1 ∙ given.there) given.meant moved.1 done.1;
            }
        | inr other ↦ record {
          next = record { walker = now.walker; there = ap (λ walkers. walkers k) given.is ∙ rw other.0 now.there; walks = now.walks; phase = phase };
          codes = λ o result e. absurd (other.1 (sym (ap (λ (h : Handed). h.number) (same_handed outcome o handed (record { number = k; result = result }) e))));
          grown = inl (λ lower s e. absurd (other.1 (sym (ap (λ (h : Handed). h.number) (same_handed outcome lower handed (record { number = k; result = Ok s }) e)))), refl);
        }
      ]
  happens_walks w (BeginWalk node eid tag count) (Begun j) new sound now off may (number, is) =
      let before = sound.walkers.numbered k now.walker now.there in
      let kept : with_walker w.walker j (fresh_walker node eid tag count) k ≡ w.walker k =
      elim (eqb_tells k j) [ inl same ↦ absurd (omega (arith, same.1, number, before)) | inr other ↦ rw other.0 refl ] in
      unmoved w new now (Begun j) (ap (λ (u : WalkedState). u.network) is) (ap (λ (u : WalkedState). u.walker k) is ∙ kept) (λ o result e. absurd (cc)) (λ lower s e. absurd (cc))
  happens_walks w (Ask i) (Asked j flight) new sound now off may (same_number, walker, next, there, asking, is, begun) = elim (eqb_tells k i) [
    | inl same ↦
        let one : now.walker ≡ walker = same_Some now.walker walker (sym now.there ∙ ap w.walker same.1 ∙ there) in
        let W : WalkerValue → Type 0 = λ x. (v : Walks tables.plan cert n first x) × (v.taken ≡ now.walks.taken) in
        let P : WalkerValue → Type 0 = λ x. PhaseOf w.network x.walk in
        let moved = subst W one (now.walks, refl) in
        let h = own_ask tables cert own n first home alone_asked lawful least most few w.network new.network walker next flight asking sound.plain moved.0 (subst P one now.phase) in
        record {
          next = record { walker = next; there = ap (λ walkers. walkers k) is ∙ rw same.0 refl; walks = h.0; phase = h.2 };
          codes = λ o result e. absurd (cc);
          grown = inl (λ lower s e. absurd (cc), h.1 ∙ moved.1);
        }
    | inr other ↦
        let unlike : ¬ IsAlike walker first = λ alike.
        other.1 (sym (sound.walkers.apart i k walker now.walker there now.there
        (alike.0 ∙ sym now.walks.same.node, alike.1 ∙ sym now.walks.same.eid, alike.2 ∙ sym now.walks.same.tag))) in
        record {
          next = record {
            walker = now.walker;
            there = ap (λ walkers. walkers k) is ∙ rw other.0 now.there;
            walks = now.walks;
            phase = phase_keeps tables cert own n first home alone_asked lawful least most few w.network (Put walker.node asking.bytes) (PutIn flight walker.node) new.network now.walker.walk
                sound.plain asking.put
                (λ id r _ _. other_ask tables cert own n first home alone_asked lawful least most few w.network new.network walker next flight asking id r one_home unlike) now.phase;
          };
          codes = λ o result e. absurd (cc);
          grown = inl (λ lower s e. absurd (cc), refl);
        }
  ]
  happens_walks w (TellWalk i) (ToldWalk j records standing) new sound now off may (same, walker, there, many, stands, is) =
      unmoved w new now (ToldWalk j records standing) (ap (λ (u : WalkedState). u.network) is) (ap (λ (u : WalkedState). u.walker k) is) (λ o result e. absurd (cc)) (λ lower s e. absurd (cc))
  happens_walks w _ _ new sound now off may h = absurd h

  step_walks : (w : WalkedState) (event : WalkedEvent) (outcome : WalkedOutcome) (new : WalkedState) → IsSound tables.plan cert w → (now : WalksNow w) → KeepsOff tables.plan first event outcome
      → WalkedStep tables w event outcome new → StepsOn w now outcome new
  step_walks w event (WalkRefused why) new sound now off h =
      unmoved w new now (WalkRefused why) (ap (λ (u : WalkedState). u.network) h.1) (ap (λ (u : WalkedState). u.walker k) h.1) (λ o result e. absurd (cc)) (λ lower s e. absurd (cc))
  step_walks w event outcome new sound now off h = happens_walks w event outcome new sound now off h.0 h.1

  -- the walker after turns, and the exchanges that it has taken in them
  record RunsOn (w : WalkedState) (now : WalksNow w) (turns : List WalkedTurn) : Type 0 where
    next : WalksNow (walked_after w turns)
    more : List Exchange
    taken : next.walks.taken ≡ now.walks.taken ++ more
    are : AreTakenIn k w turns more

  run_walks : (w : WalkedState) (turns : List WalkedTurn) → IsSound tables.plan cert w → (now : WalksNow w) → AllByRecursion (λ turn. KeepsOff tables.plan first turn.event turn.outcome) turns
      → WalkedRunFrom tables w turns → RunsOn w now turns
  unfolding GrowsBy
  run_walks w [] sound now off run = record { next = now; more = []; taken = sym (append-nil now.walks.taken); are = refl }
  run_walks w (turn ∷ turns) sound now off (step, rest) =
      let s = step_walks w turn.event turn.outcome turn.after sound now off.0 step in
      let r = run_walks turn.after turns (step_sound tables cert w turn.event turn.outcome turn.after sound step) s.next off.1 rest in
      elim s.grown [
        | inl (none, same) ↦ record { next = r.next; more = r.more; taken = r.taken ∙ ap (λ (ts : List Exchange). ts ++ r.more) same; are = inl (none, r.are) }
        | inr (x, takes, grown) ↦ record {
          next = r.next;
          more = x ∷ r.more;
          taken = r.taken ∙ ap (λ (ts : List Exchange). ts ++ r.more) grown ∙ append_assoc now.walks.taken (x ∷ []) r.more;
          are = inr (x, r.more, takes, refl, r.are);
        }
      ]

  -- what such a walker has collected
  has_walked : (since : WalkedState) (turns : List WalkedTurn) (walker : WalkerValue) → (walks : Walks tables.plan cert n first walker) → AreTakenIn k since turns walks.taken
      → HasWalked (records_by_place tables.plan cert n) k since turns walker
  has_walked since turns walker walks are =
      let records = records_by_place tables.plan cert n in
      let promised = every_walk_collects records first.walk.count walks.taken lawful least most walks.walk in
      let once = collects_once walks.taken walker.walk.records promised.collected walker.walk.under_way promised.under_way walks.collects promised.collects in
      let W : ℕ → Type 0 = λ c. Walk records c walks.taken in
      let B : List (List ℕ) → Type 0 = λ rs. IsBeginning rs (bytes_by_place records) in
      let D : ℕ → Type 0 = λ c. walker.walk.due ≡ due_after c walks.taken in
      let E : ℕ → Type 0 = λ c. walker.walk.taken ≤ exchanges c records in
      record {
        taken = walks.taken;
        in_turns = are;
        walk = subst W (sym walks.same.count) walks.walk;
        collects = walks.collects;
        due = subst D (sym walks.same.count) walks.due;
        beginning = subst B (sym once.0) promised.beginning;
        whole = λ none. once.0 ∙ (promised.whole (sym walks.due ∙ none)).0;
        number = elim walks.stands [
          | inl (failed, ended, taken, due) ↦ rw failed taken
          | inr (goes, ended, taken) ↦ rw goes (omega (arith, taken))
        ];
        counted = subst E (sym walks.same.count) (elim walks.stands [
          | inl (failed, ended, taken, due) ↦ elim (cases_lt (length walks.taken) (exchanges first.walk.count records)) [
            | inl less ↦ omega (arith, taken, less)
            | inr over ↦ absurd (due (walks.due ∙ promised.exact.1 (let b = promised.bounded in omega (arith, b, over))))
          ]
          | inr (goes, ended, taken) ↦ let b = promised.bounded in omega (arith, taken, b)
        ]);
        ended = elim walks.stands [
          | inl (failed, ended, taken, due) ↦ inr (failed, ended)
          | inr (goes, ended, taken) ↦ inl (goes, ended)
        ];
      }

  walks_there : (since : WalkedState) (turns : List WalkedTurn) (w : WalkedState) → IsSound tables.plan cert w → (now : WalksNow w) → (more : List Exchange) → now.walks.taken ≡ more → AreTakenIn k since turns more
      → WalksThere tables (records_by_place tables.plan cert n) first k since turns w
  walks_there since turns w sound now more taken are = record {
    walker = now.walker;
    there = now.there;
    same = now.walks.same;
    walked = has_walked since turns now.walker now.walks (let T : List Exchange → Type 0 = AreTakenIn k since turns in subst T (sym taken) are);
    codes = λ event outcome result new off step.
        (step_walks w event (Happened outcome (Some (record { number = k; result = result }))) new sound now off step).codes outcome result refl;
  }

-- where one node at most holds an EID and the records have an order
pub walks_over : (tables : Tables) (cert : Certificate) → ((n m e : ℕ) → Holds tables.plan n e → Holds tables.plan m e → m ≡ n) → RecordsHaveOrder tables.plan cert
    → WalksOverBy tables cert
walks_over tables cert alone orders earlier later begins k node eid tag count n run asks tells off holds has =
    by (subst (λ e. WalkedStep tables before e (Begun k) begins.after) asks (subst (λ o. WalkedStep tables before begins.event o begins.after) tells p.1.0))
  where
    p : WalkedRunFrom tables (walked_at_start tables.plan cert) earlier
        × (WalkedStep tables (walked_after (walked_at_start tables.plan cert) earlier) begins.event begins.outcome begins.after
        × WalkedRunFrom tables begins.after later)
    p = walked_splits tables (walked_at_start tables.plan cert) earlier (begins ∷ later) run

    before : WalkedState
    before = walked_after (walked_at_start tables.plan cert) earlier

    first : WalkerValue
    first = fresh_walker node eid tag count

    lawful : IsLawful (records_by_place tables.plan cert n)
    lawful = is_lawful (records_of tables.plan n) (places_of cert n) (orders n has)

    by : WalkedStep tables before (BeginWalk node eid tag count) (Begun k) begins.after
        → WalksThere tables (records_by_place tables.plan cert n) first k begins.after later (walked_reached tables.plan cert (earlier ++ begins ∷ later))
    by (may, (number, is)) =
        let own = holds_some tables.plan node (λ past. may (Also N01) past) in
        let one_home : (m : ℕ) → Holds tables.plan m own.0 → m ≡ node = λ m there. alone node m own.0 own.1 there in
        let alone_asked : (m : ℕ) → Holds tables.plan m eid → m ≡ n = λ m there. alone n m eid holds there in
        let least : 8 ≤ count = elim (cases_lt count 8) [ inl less ↦ absurd (may N10 (inl less)) | inr is ↦ is ] in
        let most : count ≤ five_packets (unit_of tables.plan) = elim (cases_lt (five_packets (unit_of tables.plan)) count) [ inl more ↦ absurd (may N10 (inr more)) | inr is ↦ is ] in
        let sound = run_sound tables cert (walked_at_start tables.plan cert) earlier (start_sound tables cert) p.0 in
        let sound_then = step_sound tables cert before begins.event begins.outcome begins.after sound p.1.0 in
        let kept : with_walker before.walker k first k ≡ Some first = elim (eqb_tells k k) [ inl same ↦ rw same.0 refl | inr other ↦ absurd (other.1 refl) ] in
        let now : WalksNow tables cert own.0 n k first own.1 one_home alone_asked lawful least (part_fits tables.plan count most) (five_fit tables.plan count most) begins.after = record {
          walker = first;
          there = ap (λ (u : WalkedState). u.walker k) is ∙ kept;
          walks = record {
            same = record { node = refl; eid = refl; tag = refl; count = refl };
            taken = [];
            walk = record { asked = λ i x none. absurd (cc); answered = λ i x none. absurd (cc) };
            collects = (fresh_stands (fresh count most_records most_bytes) count most_records most_bytes refl).collects;
            due = refl;
            stands = inr (refl, refl, refl);
          };
          phase = inr (inl refl);
        } in
        let then_ = run_walks tables cert own.0 n k first own.1 one_home alone_asked lawful least (part_fits tables.plan count most) (five_fit tables.plan count most) begins.after later sound_then now
        (recursion_from_All (λ (turn : WalkedTurn). KeepsOff tables.plan first turn.event turn.outcome) later off) p.1.1 in
        let there = walks_there tables cert own.0 n k first own.1 one_home alone_asked lawful least (part_fits tables.plan count most) (five_fit tables.plan count most) begins.after later (walked_after begins.after later)
        (run_sound tables cert begins.after later sound_then p.1.1) then_.next then_.more then_.taken then_.are in
        let R : WalkedState → Type 0 = λ w. WalksThere tables (records_by_place tables.plan cert n) first k begins.after later w in
        subst R (sym (walked_after_splits (walked_at_start tables.plan cert) earlier (begins ∷ later))) there
