-- A walker asks: its request is put in, or why it isn't.
use Rattle.std.{proofs.Common.{◌≡◌, ℕ, ◌+◌, ◌-◌, ◌<◌, ◌≤◌, List, length, Option, Some, None, refl, sym, ◌∙◌, ap, subst, inl, inr, arith}, specs.Prelude.{slice_get, slice_set, IsSomeAnd}, proofs.lemmas.Option.{none-some, slice_get_within}}
use Rattle.net_tables.{specs.Routing.{Holds}, specs.TwoPlans.{Tables}}
use Rattle.net_runs.{specs.States.{NetworkState}, specs.Events.{N01, N02, N03, N04, N05, N06, N07, most_flights}, specs.Walkers.{WalkerValue, WalkedState, Ask, Asked, WalkRefused, WalkRefusal, Also, N08, N09, N10, N11, N12, N13, MustWait, IsOver, IsWalkRefused, IsFirstWalkRefusal, walk_refusal_number, with_walker}, specs.WalkedRuns.{IsAsking}}
use Rattle.net_sim.{specs.Standing.{TrafficValue, HasNetworkState}, specs.WalkedStanding.{NetworkValue, StandsForWalked, WalkedPlays, WalkedWants}, specs.Requests.{MayAsk, MayNotAsk, PutsRequest}, proofs.Walking.{walk_refused, walkers_stay, walker_changes}}

-- the same over another name of the tables
pub puts_in : (tables tables' : Tables) (m u : TrafficValue) (x next : WalkerValue) (flight : ℕ) → tables ≡ tables' → PutsRequest tables m x flight u next → PutsRequest tables' m x flight u next
puts_in tables tables' m u x next flight same = subst (λ (t : Tables). PutsRequest t m x flight u next) same

module _ (tables : Tables) (v : NetworkValue) (number : ℕ) where
  module _ (few : length v.traffic.flights ≤ most_flights) where
    not_full : (w : WalkedState) → StandsForWalked v w → ¬ (most_flights - w.network.made < 1)
    not_full w s full = (let made = s.network.made in omega arith)

    -- nor does a walker that isn't there
    pub asks_none : ((w : WalkedState) → StandsForWalked v w → w.walker number ≡ None) → WalkedPlays tables v (Ask number) (WalkRefused N11) v
    asks_none none = walk_refused tables v (Ask number) N11 (λ w s. (none w s, before w s))
      where
        before : (w : WalkedState) → StandsForWalked v w → (other : WalkRefusal) → walk_refusal_number other < 11 → ¬ IsWalkRefused tables.plan w (Ask number) other
        before w s (Also N01) less is = is
        before w s (Also N02) less is = is
        before w s (Also N03) less is = is
        before w s (Also N04) less is = is
        before w s (Also N05) less is = is
        before w s (Also N06) less is = not_full w s is
        before w s (Also N07) less is = is
        before w s N08 less is = is
        before w s N09 less is = is
        before w s N10 less is = is
        before w s N11 less is = absurd (omega (arith, less))
        before w s N12 less is = absurd (omega (arith, less))
        before w s N13 less is = absurd (omega (arith, less))

    module _ (i : ℕ) (is : i + 1 ≡ number) (x : WalkerValue) (there : slice_get v.walkers i ≡ Some x) where
      at : (w : WalkedState) → StandsForWalked v w → w.walker number ≡ Some x
      at w s = ap w.walker (sym is) ∙ (s.walkers i ∙ there)

      -- why the walker may not ask is the first refusal
      first_why : (w : WalkedState) → StandsForWalked v w → (why : WalkRefusal) → MayNotAsk tables.plan w.network x why → IsFirstWalkRefusal tables.plan w (Ask number) why
      first_why w s N12 must = (subst (λ (o : Option WalkerValue). IsSomeAnd o (MustWait tables.plan w.network)) (sym (at w s)) must, before)
        where
          before : (other : WalkRefusal) → walk_refusal_number other < 12 → ¬ IsWalkRefused tables.plan w (Ask number) other
          before (Also N01) less is = is
          before (Also N02) less is = is
          before (Also N03) less is = is
          before (Also N04) less is = is
          before (Also N05) less is = is
          before (Also N06) less is = not_full w s is
          before (Also N07) less is = is
          before N08 less is = is
          before N09 less is = is
          before N10 less is = is
          before N11 less is = none-some x (sym is ∙ at w s)
          before N12 less is = absurd (omega (arith, less))
          before N13 less is = absurd (omega (arith, less))
      first_why w s N13 over = (subst (λ (o : Option WalkerValue). IsSomeAnd o IsOver) (sym (at w s)) over, before)
        where
          before : (other : WalkRefusal) → walk_refusal_number other < 13 → ¬ IsWalkRefused tables.plan w (Ask number) other
          before (Also N01) less is = is
          before (Also N02) less is = is
          before (Also N03) less is = is
          before (Also N04) less is = is
          before (Also N05) less is = is
          before (Also N06) less is = not_full w s is
          before (Also N07) less is = is
          before N08 less is = is
          before N09 less is = is
          before N10 less is = is
          before N11 less is = none-some x (sym is ∙ at w s)
          before N12 less is = (subst (λ (o : Option WalkerValue). IsSomeAnd o (MustWait tables.plan w.network)) (at w s) is).0 over
          before N13 less is = absurd (omega (arith, less))
      first_why w s (Also why) never = absurd never
      first_why w s N08 never = absurd never
      first_why w s N09 never = absurd never
      first_why w s N10 never = absurd never
      first_why w s N11 never = absurd never

      pub asks_in_vain : (why : WalkRefusal) → ((w : NetworkState) → HasNetworkState v.traffic w → MayNotAsk tables.plan w x why) → WalkedPlays tables v (Ask number) (WalkRefused why) v
      asks_in_vain why may_not = walk_refused tables v (Ask number) why (λ w s. first_why w s why (may_not w.network s.network))

      module _ (own : ℕ) (holds : Holds tables.plan x.node own) (may : (w : NetworkState) → HasNetworkState v.traffic w → MayAsk tables.plan w x) where
        can_ask : (w : WalkedState) → StandsForWalked v w → (why : WalkRefusal) → ¬ IsWalkRefused tables.plan w (Ask number) why
        can_ask w s (Also N01) refused = refused
        can_ask w s (Also N02) refused = refused
        can_ask w s (Also N03) refused = refused
        can_ask w s (Also N04) refused = refused
        can_ask w s (Also N05) refused = refused
        can_ask w s (Also N06) refused = not_full w s refused
        can_ask w s (Also N07) refused = refused
        can_ask w s N08 refused = refused
        can_ask w s N09 refused = refused
        can_ask w s N10 refused = refused
        can_ask w s N11 refused = none-some x (sym refused ∙ at w s)
        can_ask w s N12 refused =
            let (goes, idle, unsettled) = subst (λ (o : Option WalkerValue). IsSomeAnd o (MustWait tables.plan w.network)) (at w s) refused in
            unsettled own holds ((may w.network s.network).1 idle own holds)
        can_ask w s N13 refused = (may w.network s.network).0 (subst (λ (o : Option WalkerValue). IsSomeAnd o IsOver) (at w s) refused)

        -- memory ran out
        pub ask_wants : (u : TrafficValue) (ws : List WalkerValue) → ((w : NetworkState) → HasNetworkState v.traffic w → HasNetworkState u w) → ws ≡ v.walkers
            → WalkedWants tables v (Ask number) (record { traffic = u; walkers = ws })
        ask_wants u ws same walkers w s = (walkers_stay v u w w.network s (same w.network s.network) ws walkers, can_ask w s)

        -- the request is put in
        pub asks : (m u : TrafficValue) (flight : ℕ) (next : WalkerValue) (ws : List WalkerValue) → ((w : NetworkState) → HasNetworkState v.traffic w → HasNetworkState m w)
            → PutsRequest tables m x flight u next → ws ≡ slice_set v.walkers i next → WalkedPlays tables v (Ask number) (Asked (i + 1) flight) (record { traffic = u; walkers = ws })
        asks m u flight next ws same puts walkers w s =
            let (new, step, stands) = puts.puts.plays w.network (same w.network s.network) in
            let told = puts.tells in
            let asking : IsAsking tables w.network x flight new next = record {
              own = puts.own;
              id = told.id;
              request = puts.request;
              packet = puts.puts.packet;
              bytes = puts.puts.bytes;
              walk = told.walk;
              ids = told.ids;
              holds = puts.holds;
              under = elim told.under [ inl again ↦ inl again | inr fresh ↦ inr (fresh.0, (may w.network s.network).1 fresh.0 puts.own puts.holds, fresh.1) ];
              asks = told.asks;
              cut = puts.puts.cut;
              spelled = puts.puts.spelled;
              put = step;
              is = told.is;
            } in (
              record { network = new; walker = with_walker w.walker (i + 1) next; begun = w.begun },
              (can_ask w s, (is, x, next, at w s, asking, ap (λ n. with_walker w.walker n next) is, refl)),
              walker_changes v u w new s stands ws i next (slice_get_within v.walkers i x there) walkers,
            )
