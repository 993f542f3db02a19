-- One walker along a run: the exchanges that it has taken are a walk.
use Rattle.std.{proofs.Common.{◌≡◌, ◌≢◌, ◌⊎◌, ℕ, ◌+◌, ◌*◌, ◌≤◌, true, false, List, [], ◌∷◌, ◌++◌, length, Option, Some, None, Result, Ok, Err, refl, sym, ap, ◌∙◌, subst, inl, inr, arith}, specs.Prelude.{MatchResult}, proofs.lemmas.List.{length_push}, proofs.lemmas.Option.{same_Some}}
use Rattle.mctp_transport.{specs.PacketValues.{KeyValue}, specs.Hearing.{Whole}}
use Rattle.pldm_message.specs.Pdrs.{PartRequest}
use Rattle.pdr_repository.{specs.Records.{IsLawful}, specs.Parts.{PartAnswer, AnswersPart}, specs.Walks.{Exchange, Walk, Collects, due_after}, specs.Walkers.{WalkState, Takes, IsAnswerIn, IsDueAnswer, WalksOn}, specs.declared.walk_fault.Step.{Step as WalkStep}, specs.declared.walk_fault.WalkFault.{WalkFault}, specs.declared.walk_fault.WalkFault.TheVariants.{FailedBefore, NotAsked, TooMuch, OutOfMemory}, proofs.Walks.{stands}, proofs.Following.{goes_on}, proofs.Takings.{MayMake, may_make, failed_takes, idle_takes}}
use Rattle.plan_values.{specs.declared.plan.Plan.{Plan}, specs.declared.certificate.Certificate.{Certificate}}
use Rattle.net_tables.{specs.TwoPlans.{Tables}, specs.Routing.{Holds}, specs.Repositories.{records_by_place}}
use Rattle.net_runs.{specs.States.{NetworkState, unit_of}, specs.Events.{EventValue, OutcomeValue, Entered}, specs.Walkers.{WalkerValue, answering_key, ended_after}, specs.WalkedRuns.{IsFor}, specs.NetworkWalks.{HasCode, IsSameWalker, IsExchange}, proofs.UnderWay.{IsPlain, IsUnderWay, PutsOnlyThis, Asking, Answering, answer_under, still_under_way}, proofs.Replies.{told_is_answer}}
use Rattle.net_runs.specs.Networks as network

-- what the walker has taken, whatever is on its way
pub record Walks (plan : Plan) (cert : Certificate) (n : ℕ) (first walker : WalkerValue) : Type 0 where
  pub same : IsSameWalker first walker
  pub taken : List Exchange
  pub walk : Walk (records_by_place plan cert n) first.walk.count taken
  pub collects : Collects taken walker.walk.records walker.walk.under_way
  pub due : walker.walk.due ≡ due_after first.walk.count taken
  pub stands : ((walker.walk.failed ≡ true) × (walker.ended ≡ Some TooMuch) × (walker.walk.taken ≡ length taken + 1) × (walker.walk.due ≢ None))
      ⊎ ((walker.walk.failed ≡ false) × (walker.ended ≡ None) × (walker.walk.taken ≡ length taken))

-- of a message no exchange is taken, or this one is
abbrev pub Grows : WalkerValue → List ℕ → Result WalkStep WalkFault → List Exchange → List Exchange → Type 0
Grows walker message result old new =
    (((step : WalkStep) → result ≢ Ok step) × (new ≡ old))
    ⊎ ((x : Exchange) × (step : WalkStep) × (result ≡ Ok step) × IsExchange walker message x × (new ≡ old ++ x ∷ []))

not_taken : (result : Result WalkStep WalkFault) (fault : WalkFault) → result ≡ Err fault → (step : WalkStep) → result ≢ Ok step
not_taken result fault told step is = absurd (let e : ◌≡◌ {A = Result WalkStep WalkFault} (Err fault) (Ok step) = sym told ∙ is in cc)

module _ (tables : Tables) (cert : Certificate) (own n : ℕ) (first : WalkerValue) (home : Holds tables.plan first.node own) (alone : (m : ℕ) → Holds tables.plan m first.eid → m ≡ n)
    (lawful : IsLawful (records_by_place tables.plan cert n)) (least : 8 ≤ first.walk.count) (most : first.walk.count ≤ 4079) (few : first.walk.count + 17 ≤ 5 * (unit_of tables.plan)) where
  abbrev Under : ℕ → PartRequest → NetworkState → Type 0
  Under id r w = IsUnderWay tables cert own first.eid first.tag n alone lawful id r w

  -- its request is outstanding, and all under its keys is of that
  abbrev pub IsOutstanding : NetworkState → WalkState → Type 0
  IsOutstanding w walk = (id : ℕ) × (r : PartRequest) × (walk.waiting ≡ Some id) × (walk.due ≡ Some r) × Under id r w

  abbrev pub Phase : NetworkState → WalkState → Type 0
  Phase w walk = (walk.failed ≡ true) ⊎ ((walk.waiting ≡ None) ⊎ IsOutstanding w walk)

  -- a step that puts nothing else in under the keys
  pub phase_keeps : (w : NetworkState) (event : EventValue) (outcome : OutcomeValue) (new : NetworkState) (walk : WalkState) → IsPlain tables.plan cert w → network.Step tables w event outcome new
      → ((id : ℕ) (r : PartRequest) → walk.waiting ≡ Some id → walk.due ≡ Some r → PutsOnlyThis tables cert own first.eid first.tag n alone lawful id r event outcome) → Phase w walk → Phase new walk
  phase_keeps w event outcome new walk plain step only (inl failed) = inl failed
  phase_keeps w event outcome new walk plain step only (inr (inl none)) = inr (inl none)
  phase_keeps w event outcome new walk plain step only (inr (inr (id, r, waiting, due, under))) =
      inr (inr (id, r, waiting, due, still_under_way tables cert own first.eid first.tag n alone lawful id r w event outcome new plain under (only id r waiting due) step))

  -- the request has the walk's count
  due_count : (xs : List Exchange) (r : PartRequest) → Walk (records_by_place tables.plan cert n) first.walk.count xs → due_after first.walk.count xs ≡ Some r → r.count ≡ first.walk.count
  due_count xs r walk due = elim (stands (records_by_place tables.plan cert n) first.walk.count xs lawful least most walk) [
    | inl w ↦ ap (λ (q : PartRequest). q.count) (same_Some r w.r (sym due ∙ w.asked)) ∙ w.due.counted
    | inr past ↦ absurd (let f : None ≡ Some r = sym past.asked ∙ due in cc)
  ]

  -- what comes of a message: the walker goes on, with a code that it may have, and waits for nothing new
  pub record GoesWell (w : NetworkState) (walker : WalkerValue) (message : List ℕ) (old : List Exchange) (result : Result WalkStep WalkFault) (walk : WalkState) : Type 0 where
    pub goes : (next : WalkerValue) → next.node ≡ walker.node → next.eid ≡ walker.eid → next.tag ≡ walker.tag → next.walk ≡ walk → next.ended ≡ ended_after walker.ended result
        → (walks : Walks tables.plan cert n first next) × Grows walker message result old walks.taken
    pub phase : Phase w walk
    pub code : HasCode walker result

  unchanged : (walker next : WalkerValue) → (walks : Walks tables.plan cert n first walker) → next.node ≡ walker.node → next.eid ≡ walker.eid → next.tag ≡ walker.tag → next.walk ≡ walker.walk
      → next.ended ≡ walker.ended → (v : Walks tables.plan cert n first next) × (v.taken ≡ walks.taken)
  unchanged walker next walks node eid tag walk ended =
      let C : WalkState → Type 0 = λ v. Collects walks.taken v.records v.under_way in
      let S : WalkState → Option WalkFault → Type 0 = λ v e. ((v.failed ≡ true) × (e ≡ Some TooMuch) × (v.taken ≡ length walks.taken + 1) × (v.due ≢ None))
      ⊎ ((v.failed ≡ false) × (e ≡ None) × (v.taken ≡ length walks.taken)) in
      let one : S next.walk walker.ended = subst (λ v. S v walker.ended) (sym walk) walks.stands in (
        record {
          same = record { node = node ∙ walks.same.node; eid = eid ∙ walks.same.eid; tag = tag ∙ walks.same.tag; count = ap (λ (v : WalkState). v.count) walk ∙ walks.same.count };
          taken = walks.taken;
          walk = walks.walk;
          collects = subst C (sym walk) walks.collects;
          due = ap (λ (v : WalkState). v.due) walk ∙ walks.due;
          stands = subst (S next.walk) (sym ended) one;
        },
        refl,
      )

  -- it makes nothing of the message
  ignores : (w : NetworkState) (walker : WalkerValue) (message : List ℕ) (result : Result WalkStep WalkFault) (walk : WalkState) (fault : WalkFault) → (walks : Walks tables.plan cert n first walker) → Phase w walker.walk
      → result ≡ Err fault → walk ≡ walker.walk → ended_after walker.ended (Err fault) ≡ walker.ended → HasCode walker (Err fault) → GoesWell w walker message walks.taken result walk
  ignores w walker message result walk fault walks phase told is ended code =
      let P : WalkState → Type 0 = Phase w in
      let H : Result WalkStep WalkFault → Type 0 = HasCode walker in
      record {
        goes = λ next node eid tag same end.
            let u = unchanged walker next walks node eid tag (same ∙ is) (end ∙ ap (ended_after walker.ended) told ∙ ended) in
            (u.0, inl (not_taken result fault told, u.1));
        phase = subst P (sym is) phase;
        code = subst H (sym told) code;
      }

  -- the answer is taken, or is too much
  takes_answer : (w : NetworkState) (walker : WalkerValue) (message : List ℕ) (result : Result WalkStep WalkFault) (walk : WalkState) (id : ℕ) (r : PartRequest) (a : PartAnswer)
      → (walks : Walks tables.plan cert n first walker) → walker.walk.failed ≡ false → walker.ended ≡ None → walker.walk.taken ≡ length walks.taken → walker.walk.waiting ≡ Some id → walker.walk.due ≡ Some r
      → AnswersPart (records_by_place tables.plan cert n) r a → IsAnswerIn message (answer_under id a) → Takes walker.walk message result walk → result ≢ Err OutOfMemory
      → GoesWell w walker message walks.taken result walk
  takes_answer w walker message result walk id r a walks goes ended taken waiting due answered spelled takes memory =
      by result takes memory (may_make walker.walk message result walk takes)
    where
      x : Exchange
      x = record { request = r; answer = a }

      given : IsDueAnswer walker.walk message (records_by_place tables.plan cert n) walks.taken x
      given =
          let W : ℕ → Type 0 = λ c. Walk (records_by_place tables.plan cert n) c walks.taken in
          record {
            lawful = lawful;
            walk = subst W (sym walks.same.count) walks.walk;
            stands = record { collects = walks.collects; due = walks.due ∙ ap (λ c. due_after c walks.taken) (sym walks.same.count); goes = goes };
            due = due;
            answered = answered;
            head = record { reserved = false; instance = id };
            waiting = waiting;
            spelled = spelled;
          }

      on : (result : Result WalkStep WalkFault) → Takes walker.walk message result walk
          → MatchResult result (λ step. WalksOn (records_by_place tables.plan cert n) (walks.taken ++ x ∷ []) step walk) (λ fault. (fault ≡ TooMuch) ⊎ (fault ≡ OutOfMemory))
      on result takes = goes_on walker.walk walk message result (omega (arith, least, walks.same.count)) (omega (arith, most, walks.same.count)) takes (records_by_place tables.plan cert n) walks.taken x given

      too_much : (fault : WalkFault) → ¬ ◌≡◌ {A = Result WalkStep WalkFault} (Err fault) (Err OutOfMemory) → (fault ≡ TooMuch) ⊎ (fault ≡ OutOfMemory) → fault ≡ TooMuch
      too_much fault memory (inl is) = is
      too_much fault memory (inr is) = absurd (memory (ap Err is))

      not_ignored : (fault : WalkFault) → fault ≡ TooMuch → (fault ≡ FailedBefore) ⊎ ((fault ≡ NotAsked) ⊎ (fault ≡ OutOfMemory)) → ⊥
      not_ignored fault is (inl other) = let e : TooMuch ≡ FailedBefore = sym is ∙ other in cc
      not_ignored fault is (inr (inl other)) = let e : TooMuch ≡ NotAsked = sym is ∙ other in cc
      not_ignored fault is (inr (inr other)) = let e : TooMuch ≡ OutOfMemory = sym is ∙ other in cc

      same_fault : (f g : WalkFault) → ◌≡◌ {A = Result WalkStep WalkFault} (Err f) (Err g) → f ≡ g
      same_fault f g e = cc

      not_both : (step : WalkStep) (f : WalkFault) → ◌≡◌ {A = Result WalkStep WalkFault} (Ok step) (Err f) → ⊥
      not_both step f e = cc

      by : (result : Result WalkStep WalkFault) → Takes walker.walk message result walk → result ≢ Err OutOfMemory → MayMake walker.walk result walk → GoesWell w walker message walks.taken result walk
      by (Ok step) takes memory (inl ignored) = absurd (not_both step ignored.fault ignored.told)
      by (Ok step) takes memory (inr (inl failed)) = absurd (not_both step failed.fault failed.told)
      by (Ok step) takes memory (inr (inr made)) =
          let g = on (Ok step) takes in
          let count : walk.count ≡ first.walk.count = ap (λ (v : WalkState). v.count) made.is ∙ walks.same.count in
          let W : ℕ → Type 0 = λ c. Walk (records_by_place tables.plan cert n) c (walks.taken ++ x ∷ []) in
          let C : WalkState → Type 0 = λ v. Collects (walks.taken ++ x ∷ []) v.records v.under_way in
          record {
            goes = λ next node eid tag same end. (
              record {
                same = record { node = node ∙ walks.same.node; eid = eid ∙ walks.same.eid; tag = tag ∙ walks.same.tag; count = ap (λ (v : WalkState). v.count) same ∙ count };
                taken = walks.taken ++ x ∷ [];
                walk = subst W count g.walk;
                collects = subst C (sym same) g.stands.collects;
                due = ap (λ (v : WalkState). v.due) same ∙ g.stands.due ∙ ap (λ c. due_after c (walks.taken ++ x ∷ [])) count;
                stands = inr (
                  ap (λ (v : WalkState). v.failed) same ∙ g.stands.goes,
                  end ∙ ended,
                  ap (λ (v : WalkState). v.taken) same ∙ ap (λ (v : WalkState). v.taken) made.is ∙ ap (λ m. m + 1) taken ∙ sym (length_push walks.taken x),
                );
              },
              inr (x, step, refl, record { head = record { reserved = false; instance = id }; due = due; waiting = waiting; spelled = spelled }, refl),
            );
            phase = inr (inl (ap (λ (v : WalkState). v.waiting) made.is));
            code = goes;
          }
      by (Err fault) takes memory (inr (inr made)) = absurd (not_both made.step fault (sym made.told))
      by (Err fault) takes memory (inl ignored) =
          let much = too_much fault memory (on (Err fault) takes) in
          absurd (not_ignored ignored.fault (sym (same_fault fault ignored.fault ignored.told) ∙ much) ignored.why)
      by (Err fault) takes memory (inr (inl failed)) =
          let much = too_much fault memory (on (Err fault) takes) in
          let C : WalkState → Type 0 = λ v. Collects walks.taken v.records v.under_way in
          record {
            goes = λ next node eid tag same end.
                let is = same ∙ failed.is in (
                  record {
                    same = record { node = node ∙ walks.same.node; eid = eid ∙ walks.same.eid; tag = tag ∙ walks.same.tag; count = ap (λ (v : WalkState). v.count) is ∙ walks.same.count };
                    taken = walks.taken;
                    walk = walks.walk;
                    collects = subst C (sym is) walks.collects;
                    due = ap (λ (v : WalkState). v.due) is ∙ walks.due;
                    stands = inl (
                      ap (λ (v : WalkState). v.failed) is,
                      end ∙ ap (λ f. ended_after walker.ended (Err f)) much,
                      ap (λ (v : WalkState). v.taken) is ∙ ap (λ m. m + 1) taken,
                      λ none. let e : None ≡ Some r = sym none ∙ ap (λ (v : WalkState). v.due) is ∙ due in cc,
                    );
                  },
                  inl (not_taken (Err fault) fault refl, refl),
                );
            phase = inl (ap (λ (v : WalkState). v.failed) failed.is);
            code = inl (goes, inr much);
          }

  -- what the walker makes of a message that a step tells at its node under the key of its answers
  pub hears : (w : NetworkState) (event : EventValue) (outcome : OutcomeValue) (new : NetworkState) (walker : WalkerValue) (message : List ℕ) (result : Result WalkStep WalkFault) (walk : WalkState)
      → (walks : Walks tables.plan cert n first walker) → Phase w walker.walk → Phase new walker.walk → network.Step tables w event outcome new → IsFor walker outcome message
      → Takes walker.walk message result walk → result ≢ Err OutOfMemory → GoesWell new walker message walks.taken result walk
  hears w event outcome new walker message result walk walks before phase step (flight, is) takes memory = elim walks.stands [
    | inl (failed, ended, taken, due) ↦
        let h = failed_takes walker.walk message result walk failed takes in
        ignores new walker message result walk FailedBefore walks phase h.0 h.1 refl (inr (failed, refl))
    | inr (goes, ended, taken) ↦ elim before [
      | inl failed ↦ absurd (let e : true ≡ false = sym failed ∙ goes in cc)
      | inr (inl none) ↦
          let h = idle_takes walker.walk message result walk goes none takes in
          ignores new walker message result walk NotAsked walks phase h.0 h.1 refl (inl (goes, inl refl))
      | inr (inr (id, r, waiting, due, under)) ↦
          let H : ℕ → Type 0 = λ m. Holds tables.plan m own in
          let K : KeyValue = Asking tables cert own first.eid first.tag n alone lawful in
          let key : answering_key walker ≡ Answering tables cert own first.eid first.tag n alone lawful = λ j. record { source = walks.same.eid j; tag = walks.same.tag j; owner = false } in
          let count = due_count walks.taken r walks.walk (sym walks.due ∙ due) in
          let answer = told_is_answer tables cert own first.eid first.tag n alone lawful id r w event outcome new flight walker.node message under (omega (arith, few, count)) step
          (subst H (sym walks.same.node) home) (is ∙ ap (λ k. Entered flight walker.node k (Whole message)) key) in
          takes_answer new walker message result walk id r answer.0 walks goes ended taken waiting due answer.1 answer.2 takes memory
    ]
  ]
