-- The packets of an answer are moved one after another until they have come: the answer comes with the last of them.
use Rattle.std.{proofs.Common.{◌≡◌, ◌≢◌, ◌⊎◌, ℕ, suc, ◌+◌, ◌<◌, ◌≤◌, false, List, [], ◌∷◌, ◌++◌, length, Option, Some, None, refl, sym, ap, ◌∙◌, subst, inl, inr, arith}, specs.List.{AllByRecursion}, proofs.lemmas.Bool.{cases_order}, proofs.lemmas.List.{append_assoc}}
use Rattle.mctp_transport.{specs.PacketValues.{PacketValue, KeyValue, key_of}, specs.Messages.{Joined}, specs.Histories.{History}, specs.Hearing.{Answer, Whole, Held, Hears}}
use Rattle.plan_values.specs.declared.certificate.Certificate.{Certificate}
use Rattle.net_tables.{specs.Routing.{Holds}, specs.TwoPlans.{Tables, HasRowAlways}, specs.Lawful.{IsLawful}}
use Rattle.net_runs.{specs.States.{NetworkState, with_received, slots, limit}, specs.Events.{Move, Entered}, specs.Networks.{Step}, specs.Walkers.{WalkerValue}, proofs.AtRest.{AreUnderWay}, proofs.Delivered.{IsOnRoute}, proofs.Nexts.{new_flight}, proofs.Ordered.{IsClosed, Awaits, held, comes_last}, proofs.Reaching.{Reaches, reaches_on, network_turn}, proofs.Travels.{Now, HasEnteredThere, enters_there}}

module _ (tables : Tables) (cert : Certificate) (lawful : IsLawful tables cert) (walkers : ℕ → Option WalkerValue) (begun : ℕ) where
  -- a packet has a way from where it is put in
  pub way_is_route : (n d : ℕ) (p : PacketValue) → p.destination ≡ d → Holds tables.plan n d ⊎ HasRowAlways tables n d → IsOnRoute tables (new_flight n p)
  way_is_route n d p to way =
      let W : ℕ → Type 0 = λ e. Holds tables.plan n e ⊎ HasRowAlways tables n e in
      elim (subst W (sym to) way) [ inl here ↦ inl here | inr row ↦ inr (inr refl, row) ]

  module _ (a n d : ℕ) (key : KeyValue) (message : List ℕ) (fits : length message ≤ limit) (holds : Holds tables.plan a d) (way : Holds tables.plan n d ⊎ HasRowAlways tables n d)
      (answers : key.owner ≡ false) where
    -- the message comes with a step, and then nothing is on its way and no key is open
    pub record Brings (w : NetworkState) : Type 0 where
      pub before : NetworkState
      pub run : Reaches tables (Now tables cert lawful walkers begun w) (Now tables cert lawful walkers begun before)
      pub number : ℕ
      pub new : NetworkState
      pub step : Step tables before (Move number false) (Entered number a key (Whole message)) new
      pub none : (k : ℕ) → new.flight k ≡ None
      pub closed : (m : ℕ) → IsClosed (new.history m)
      pub made : new.made ≡ w.made
      pub terminus : new.terminus ≡ w.terminus

    -- what is brought later is brought
    goes_later : (w v : NetworkState) → Reaches tables (Now tables cert lawful walkers begun w) (Now tables cert lawful walkers begun v) → v.made ≡ w.made → v.terminus ≡ w.terminus → Brings v → Brings w
    goes_later w v run made terminus later = record {
      before = later.before;
      run = reaches_on tables (Now tables cert lawful walkers begun w) (Now tables cert lawful walkers begun v) (Now tables cert lawful walkers begun later.before) run later.run;
      number = later.number;
      new = later.new;
      step = later.step;
      none = later.none;
      closed = later.closed;
      made = later.made ∙ made;
      terminus = later.terminus ∙ terminus;
    }

    abbrev pub IsOfMessage : PacketValue → Type 0
    IsOfMessage p = (key_of p ≡ key) × (p.destination ≡ d)

    enters : (w : NetworkState) (k : ℕ) (p : PacketValue) (answer : Answer) → w.flight k ≡ Some (new_flight n p) → IsOfMessage p → Hears slots limit (w.history a) p answer
        → HasEnteredThere tables cert lawful walkers begun w k (new_flight n p) a answer
    enters w k p answer there (mine, to) hears =
        let H : ℕ → Type 0 = λ e. Holds tables.plan a e in
        enters_there tables cert lawful walkers begun w k (new_flight n p) a answer there (subst H (sym to) holds) (way_is_route n d p to way) hears

    stays_closed : (w new : NetworkState) → ((j : ℕ) → j ≢ a → new.history j ≡ w.history j) → ((m : ℕ) → m ≢ a → IsClosed (w.history m)) → (m : ℕ) → m ≢ a → IsClosed (new.history m)
    stays_closed w new elsewhere closed m other = let C : History → Type 0 = IsClosed in subst C (sym (elsewhere m other)) (closed m other)

    brings : (front rest : List PacketValue) (w : NetworkState) (base : ℕ) → 0 < length rest → Joined (front ++ rest) message → AllByRecursion IsOfMessage rest → AreUnderWay w base n rest
        → Awaits (w.history a) key front → ((m : ℕ) → m ≢ a → IsClosed (w.history m)) → Brings w
    brings front [] w base some joined all under awaits closed = absurd (omega arith)
    brings front (p ∷ []) w base some joined all under awaits closed =
        let came = comes_last message key fits (w.history a) front p joined all.0.0 awaits in
        let e = enters w (base + 1) p (Whole message) (number_first ∙ under.flights 0 p refl) all.0 came.0 in
        let S : KeyValue → Type 0 = λ k. Step tables e.before (Move (base + 1) false) (Entered (base + 1) a k (Whole message)) e.new in
        let T : KeyValue → Type 0 = λ k. e.new.terminus ≡ (with_received w a k (Whole message)).terminus in
        let C : History → Type 0 = IsClosed in
        record {
          before = e.before;
          run = e.run;
          number = base + 1;
          new = e.new;
          step = subst S all.0.0 e.step;
          none = λ k. elim (cases_order k (base + 1)) [
            | inl same ↦ ap e.new.flight same ∙ e.gone
            | inr (inl less) ↦ e.flights k (λ same. omega arith) ∙ under.others k (inl (omega arith))
            | inr (inr more) ↦ e.flights k (λ same. omega arith) ∙ under.others k (inr (omega arith))
          ];
          closed = λ m. elim (cases_order m a) [
            | inl same ↦ subst C (sym (ap e.new.history same ∙ e.heard)) came.1
            | inr (inl less) ↦ stays_closed w e.new e.elsewhere closed m (λ same. omega arith)
            | inr (inr more) ↦ stays_closed w e.new e.elsewhere closed m (λ same. omega arith)
          ];
          made = e.made;
          terminus = subst T all.0.0 e.terminus ∙ no_owner key answers;
        }
      where
        number_first : w.flight (base + 1) ≡ w.flight (base + 1 + 0)
        number_first = ap w.flight (let e : base + 1 ≡ base + 1 + 0 = omega arith in e)

        no_owner : (k : KeyValue) → k.owner ≡ false → (with_received w a k (Whole message)).terminus ≡ w.terminus
        no_owner k is = rw is refl
    brings front (p ∷ q ∷ rest) w base some joined all under awaits closed =
        let J : List PacketValue → Type 0 = λ ps. Joined ps message in
        let joined_on : Joined ((front ++ p ∷ []) ++ q ∷ rest) message = subst J (sym (append_assoc front (p ∷ []) (q ∷ rest))) joined in
        let kept = held message key fits (w.history a) front rest p q joined_on all.0.0 awaits in
        let number_first : w.flight (base + 1) ≡ w.flight (base + 1 + 0) = ap w.flight (let e : base + 1 ≡ base + 1 + 0 = omega arith in e) in
        let e = enters w (base + 1) p Held (number_first ∙ under.flights 0 p refl) all.0 kept.0 in
        let A : History → Type 0 = λ h. Awaits h key (front ++ p ∷ []) in
        let turn = network_turn tables (Now tables cert lawful walkers begun e.before) (Move (base + 1) false) (Entered (base + 1) a (key_of p) Held) e.new (λ node bytes same. cc) e.step
        (λ number walker said stands (flight, is). absurd (cc)) in
        let later = brings (front ++ p ∷ []) (q ∷ rest) e.new (base + 1) (omega arith) joined_on all.1 (record {
          flights = λ i x is.
              let same : base + 1 + 1 + i ≡ base + 1 + suc i = omega arith in
              e.flights (base + 1 + 1 + i) (λ at. omega arith) ∙ ap w.flight same ∙ under.flights (suc i) x is;
          others = λ k out. elim (cases_order k (base + 1)) [
            | inl same ↦ let here : e.new.flight k ≡ e.new.flight (base + 1) = ap e.new.flight same in here ∙ e.gone
            | inr (inl less) ↦ let before : e.new.flight k ≡ w.flight k = e.flights k (λ at. omega arith) in before ∙ under.others k (inl (omega arith))
            | inr (inr more) ↦ elim out [
              | inl low ↦ absurd (omega arith)
              | inr high ↦ let before : e.new.flight k ≡ w.flight k = e.flights k (λ at. omega arith) in before ∙ under.others k (inr (omega arith))
            ]
          ];
        }) (subst A (sym e.heard) kept.1) (stays_closed w e.new e.elsewhere closed) in
        goes_later w e.new
        (reaches_on tables (Now tables cert lawful walkers begun w) (Now tables cert lawful walkers begun e.before) (Now tables cert lawful walkers begun e.new) e.run turn)
        e.made e.terminus later

    -- all packets of the message
    pub all_brought : (ps : List PacketValue) (w : NetworkState) (base : ℕ) → 0 < length ps → Joined ps message → AllByRecursion IsOfMessage ps → AreUnderWay w base n ps
        → ((m : ℕ) → IsClosed (w.history m)) → Brings w
    all_brought ps w base some joined all under closed = brings [] ps w base some joined all under (closed a) (λ m other. closed m)
