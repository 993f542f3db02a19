-- A flight that has a way to where its destination is held is moved on until its packet has entered there.
use Rattle.std.{proofs.Common.{◌≡◌, ◌≢◌, ◌⊎◌, ℕ, zero, suc, ◌+◌, ◌<◌, Bool, true, false, cond, map, Option, Some, None, refl, sym, ap, ◌∙◌, subst, inl, inr, arith}, specs.Prelude.{option_map, ◌==◌, if◌then◌else◌}, proofs.lemmas.Bool.Decides.{eqb_tells}, proofs.lemmas.Option.{none-some}}
use Rattle.mctp_transport.{specs.PacketValues.{PacketValue, KeyValue, key_of}, specs.Histories.{Arrived, History, after}, specs.Hearing.{Answer, Whole, Held, Dropped, Hears}}
use Rattle.mctp_routing.{specs.declared.row.Hop.{Hop}, specs.Rows.{Routes}, specs.declared.decision.Decision.TheVariants.{Here, Forward}}
use Rattle.plan_values.specs.declared.certificate.Certificate.{Certificate}
use Rattle.net_tables.{specs.Routing.{Holds, IsBridge, NamesFor}, specs.Ranks.{rank}, specs.Tables.{table_row}, specs.TwoPlans.{Tables}, specs.Lawful.{IsLawful}, proofs.TableLaws.{routed, named}}
use Rattle.net_runs.{specs.States.{NetworkState, Flight, destination, with_flight, without_flight, with_input, with_terminus, with_received, slots, limit, rows_now}, specs.Termini.{TerminusState, with_waiting}, specs.Events.{Move, Moved, Entered, Refusal, N01, N02, N03, N04, N05, N06, N07, IsRefused}, specs.Networks.{Step}, specs.Walkers.{WalkerValue, WalkedState}, proofs.Delivered.{IsOnRoute}, proofs.RowsNow.{row_now}, proofs.Nexts.{received_same}, proofs.Reaching.{Reaches, stays_there, reaches_on, network_turn}, proofs.Steps.{holds_or_not}}

-- the flights but one are as before, and all else is
pub record IsSameBut (k : ℕ) (w new : NetworkState) : Type 0 where
  pub flights : (j : ℕ) → j ≢ k → new.flight j ≡ w.flight j
  pub made : new.made ≡ w.made
  pub history : new.history ≡ w.history
  pub terminus : new.terminus ≡ w.terminus

module _ (tables : Tables) (cert : Certificate) (lawful : IsLawful tables cert) (walkers : ℕ → Option WalkerValue) (begun : ℕ) where
  -- the network with these walkers
  abbrev pub Now : NetworkState → WalkedState
  Now w = record { network = w; walker = walkers; begun = begun }

  may_move : (w : NetworkState) (k : ℕ) (f : Flight) → w.flight k ≡ Some f → (why : Refusal) → ¬ IsRefused tables w (Move k false) why
  may_move w k f is N01 refused = refused
  may_move w k f is N02 refused = refused
  may_move w k f is N03 refused = none-some f (sym refused ∙ is)
  may_move w k f is N04 refused = refused
  may_move w k f is N05 refused = refused
  may_move w k f is N06 refused = omega (arith, refused)
  may_move w k f is N07 refused = refused

  -- the flight has come where its destination is held
  record HasCome (w : NetworkState) (k : ℕ) (f : Flight) : Type 0 where
    new : NetworkState
    run : Reaches tables (Now w) (Now new)
    same : IsSameBut k w new
    flight : Flight
    there : new.flight k ≡ Some flight
    packet : flight.packet ≡ f.packet
    holds : Holds tables.plan flight.node (destination f)

  on_its_way : (most : ℕ) (w : NetworkState) (k : ℕ) (f : Flight) (holder : ℕ) → w.flight k ≡ Some f → Holds tables.plan holder (destination f) → IsOnRoute tables f
      → rank cert f.node (destination f) < most → HasCome w k f
  on_its_way zero w k f holder is held route low = absurd (omega arith)
  on_its_way (suc most) w k f holder is held route low = elim (holds_or_not tables.plan f.node (destination f)) [
    | inl here ↦ record {
      new = w;
      run = stays_there tables (Now w);
      same = record { flights = λ j other. refl; made = refl; history = refl; terminus = refl };
      flight = f;
      there = is;
      packet = refl;
      holds = here;
    }
    | inr away ↦ elim route [
      | inl here ↦ absurd (away here)
      | inr (goes, row) ↦
          let next = row_now tables w f.node (destination f) row in
          let (hop, along) = routed (rows_now tables w f.node) (destination f) next.0 next.1 in
          forwarded away goes hop along (named (rows_now tables w f.node) (destination f) hop along) (λ v g there held on less. on_its_way most v k g holder there held on less)
    ]
  ]
    where
      forwarded : ¬ Holds tables.plan f.node (destination f) → IsBridge tables.plan f.node ⊎ (f.hops ≡ 0) → (hop : Hop) → Routes (map table_row (rows_now tables w f.node)) (destination f) hop
          → NamesFor (rows_now tables w f.node) (destination f) hop.next
          → ((v : NetworkState) (g : Flight) → v.flight k ≡ Some g → Holds tables.plan holder (destination g) → IsOnRoute tables g → rank cert g.node (destination g) < most → HasCome v k g)
          → HasCome w k f
      forwarded away goes hop along names later =
          let d = destination f in
          let g : Flight = record f { node = hop.next; hops = f.hops + 1 } in
          let new : NetworkState = with_flight (without_flight w k) k g in
          let apart : holder ≢ f.node = λ same. let H : ℕ → Type 0 = λ n. Holds tables.plan n d in away (subst H same held) in
          let falls = lawful.falls (w.switched f.node) f.node d hop.next away names in
          let led = lawful.led (w.switched f.node) f.node d hop.next names holder held apart in
          let on : IsOnRoute tables g = elim led [ inl here ↦ inl here | inr (bridge, more) ↦ inr (inl bridge, more) ] in
          let there : new.flight k ≡ Some g = elim (eqb_tells k k) [ inl same ↦ rw same.0 refl | inr other ↦ absurd (other.1 refl) ] in
          let step : Step tables w (Move k false) (Moved k hop.next (f.hops + 1)) new =
          (may_move w k f is, (f, is, (Forward hop, (away, lawful.eids holder d held, goes, along), (refl, refl, refl, refl)))) in
          let turn = network_turn tables (Now w) (Move k false) (Moved k hop.next (f.hops + 1)) new (λ node bytes e. cc) step (λ number walker message stands (flight, e). cc) in
          let rest = later new g there held on (omega arith) in
          let others : (j : ℕ) → j ≢ k → new.flight j ≡ w.flight j = λ j other. elim (eqb_tells j k) [ inl same ↦ absurd (other same.1) | inr apart ↦ rw apart.0 refl ] in
          record {
            new = rest.new;
            run = reaches_on tables (Now w) (Now new) (Now rest.new) turn rest.run;
            same = record {
              flights = λ j other. rest.same.flights j other ∙ others j other;
              made = rest.same.made;
              history = rest.same.history;
              terminus = rest.same.terminus;
            };
            flight = rest.flight;
            there = rest.there;
            packet = rest.packet;
            holds = rest.holds;
          }

  -- a flight's packet enters where its destination is held, which answers so
  pub record HasEnteredThere (w : NetworkState) (k : ℕ) (f : Flight) (m : ℕ) (answer : Answer) : Type 0 where
    pub before : NetworkState
    pub new : NetworkState
    pub run : Reaches tables (Now w) (Now before)
    pub step : Step tables before (Move k false) (Entered k m (key_of f.packet) answer) new
    pub flights : (j : ℕ) → j ≢ k → new.flight j ≡ w.flight j
    pub gone : new.flight k ≡ None
    pub made : new.made ≡ w.made
    pub heard : new.history m ≡ after (w.history m) (Arrived f.packet)
    pub elsewhere : (j : ℕ) → j ≢ m → new.history j ≡ w.history j
    pub terminus : new.terminus ≡ (with_received w m (key_of f.packet) answer).terminus

  -- what waits at the termini afterwards depends on what waited before alone
  same_termini : (v w : NetworkState) (m : ℕ) (key : KeyValue) (answer : Answer) → v.terminus ≡ w.terminus → (with_received v m key answer).terminus ≡ (with_received w m key answer).terminus
  same_termini v w m key (Whole message) same = pick key.owner
    where
      put_by : (ℕ → Option TerminusState) → ℕ → Option TerminusState
      put_by terminus n = if n == m then option_map (λ t. with_waiting t (record { key = key; bytes = message })) (terminus m) else terminus n

      pick : (b : Bool) → (cond b (with_terminus v m (option_map (λ t. with_waiting t (record { key = key; bytes = message })) (v.terminus m))) v).terminus
          ≡ (cond b (with_terminus w m (option_map (λ t. with_waiting t (record { key = key; bytes = message })) (w.terminus m))) w).terminus
      pick true = ap put_by same
      pick false = same
  same_termini v w m key Held same = same
  same_termini v w m key (Dropped why) same = same

  pub enters_there : (w : NetworkState) (k : ℕ) (f : Flight) (m : ℕ) (answer : Answer) → w.flight k ≡ Some f → Holds tables.plan m (destination f) → IsOnRoute tables f
      → Hears slots limit (w.history m) f.packet answer → HasEnteredThere w k f m answer
  enters_there w k f m answer is held route hears = by (on_its_way (rank cert f.node (destination f) + 1) w k f m is held route (omega arith))
    where
      by : HasCome w k f → HasEnteredThere w k f m answer
      by come =
          let u = come.new in
          let g = come.flight in
          let p = g.packet in
          let at : g.node ≡ m = sym (lawful.alone g.node m (destination f) come.holds held) in
          let v : NetworkState = with_input (without_flight u k) g.node (Arrived g.packet) in
          let new : NetworkState = with_received v g.node (key_of g.packet) answer in
          let H : ℕ → Type 0 = λ e. Holds tables.plan g.node e in
          let E : History → PacketValue → Type 0 = λ h q. Hears slots limit h q answer in
          let heard_here : u.history g.node ≡ w.history m = ap (λ history. history g.node) come.same.history ∙ ap w.history at in
          let hears_here : E (u.history g.node) g.packet = subst (λ h. E h g.packet) (sym heard_here) (subst (E (w.history m)) (sym come.packet) hears) in
          let step : Step tables u (Move k false) (Entered k g.node (key_of g.packet) answer) new =
          (may_move u k g come.there, (g, come.there, (Here, subst H (sym (ap (λ (q : PacketValue). q.destination) come.packet)) come.holds, (refl, refl, refl, hears_here, refl)))) in
          let S : ℕ → PacketValue → Type 0 = λ n q. Step tables u (Move k false) (Entered k n (key_of q) answer) new in
          let told = subst (λ n. S n f.packet) at (subst (S g.node) come.packet step) in
          let same = received_same v g.node (key_of g.packet) answer in
          let T : ℕ → PacketValue → Type 0 = λ n q. new.terminus ≡ (with_received w n (key_of q) answer).terminus in
          let termini : T g.node g.packet = same_termini v w g.node (key_of g.packet) answer come.same.terminus in
          record {
            before = u;
            new = new;
            run = come.run;
            step = told;
            flights = λ j other. ap (λ flight. flight j) same.flight ∙ left j other ∙ come.same.flights j other;
            gone = ap (λ flight. flight k) same.flight ∙ ended;
            made = same.made ∙ come.same.made;
            heard = ap (λ history. history m) same.history ∙ given at ∙ ap (λ h. after h (Arrived g.packet)) (ap (λ history. history m) come.same.history) ∙ ap (λ q. after (w.history m) (Arrived q)) come.packet;
            elsewhere = λ j other. ap (λ history. history j) same.history ∙ untouched at j other ∙ ap (λ history. history j) come.same.history;
            terminus = subst (λ n. T n f.packet) at (subst (T g.node) come.packet termini);
          }
        where
          left : (j : ℕ) → j ≢ k → (without_flight come.new k).flight j ≡ come.new.flight j
          left j other = elim (eqb_tells j k) [ inl same ↦ absurd (other same.1) | inr apart ↦ rw apart.0 refl ]

          ended : (without_flight come.new k).flight k ≡ None
          ended = elim (eqb_tells k k) [ inl same ↦ rw same.0 refl | inr other ↦ absurd (other.1 refl) ]

          given : come.flight.node ≡ m → (with_input (without_flight come.new k) come.flight.node (Arrived come.flight.packet)).history m ≡ after (come.new.history m) (Arrived come.flight.packet)
          given at = elim (eqb_tells m come.flight.node) [ inl same ↦ rw same.0 refl | inr other ↦ absurd (other.1 (sym at)) ]

          untouched : come.flight.node ≡ m → (j : ℕ) → j ≢ m → (with_input (without_flight come.new k) come.flight.node (Arrived come.flight.packet)).history j ≡ come.new.history j
          untouched at j other = elim (eqb_tells j come.flight.node) [ inl same ↦ absurd (other (same.1 ∙ at)) | inr apart ↦ rw apart.0 refl ]
