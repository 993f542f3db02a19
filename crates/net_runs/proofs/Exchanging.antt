-- One exchange, from a network at rest to a network at rest: the walker asks, its request and the answer are moved
-- until they have come, and it takes the answer.
use Rattle.std.{proofs.Common.{◌≡◌, ◌≢◌, ℕ, ◌+◌, ◌<◌, ◌≤◌, not, ◌&&◌, nat_eq, true, false, List, [], ◌∷◌, ◌++◌, length, Option, Some, None, Ok, Err, refl, sym, ap, ◌∙◌, inl, inr, arith}, specs.Prelude.{All, sum_by}, proofs.lemmas.Bool.{cases_order}, proofs.lemmas.List.{length_push}, proofs.lemmas.Option.{same_Some}}
use Rattle.mctp_transport.{specs.Hearing.{Whole}, proofs.InOrder.{all_from}, proofs.PacketLists.{packets_join}, proofs.Sending.{few_packets}}
use Rattle.pldm_message.{specs.InstanceIds.{IdSet, Gives, TakesBack}, specs.Pdrs.{PartRequest, get_pdr_request_bytes}}
use Rattle.pdr_repository.{specs.Records.{Entry, IsLawful}, specs.Walks.{Exchange, Walk}, specs.declared.walk_fault.Step.{Step as WalkStep}, specs.Walkers.{WalkState, HasTakenIn, asked_under, IsDueAnswer}, proofs.Walks.{stands}, proofs.Takings.{MayMake, HasTaken, may_make}}
use Rattle.plan_values.specs.declared.certificate.Certificate.{Certificate}
use Rattle.net_runs.{proofs.Units.{least_unit, five_fit, part_fits}, specs.Termini.{TerminusState, AreBytes, with_waiting}, specs.States.{NetworkState, with_packet, unit_of}, specs.Events.{Move, Entered, N01, N02, N03, N04, N05, N06, N07, most_flights}, specs.NetworkWalks.{IsSameWalker}, specs.PlayedWalks.{HasWay}, specs.Walkers.{WalkerValue, WalkedState, Ask, Asked, Happening, Happened, WalkRefusal, Also, N08, N09, N10, N11, N12, N13, IsOver, IsWalkRefused, with_walker, asking_key, answering_key, AreSettled, five_packets}, specs.WalkedGoing.{IsLawfulWalker}, proofs.AtRest.{IsAtRest, rest_is_settled, packet_there, packet_others}, proofs.Bringing.{Brings, IsOfMessage, all_brought}, proofs.FirstAsks.{never_refused}, proofs.Fitting.{TakesOn, takes_on}, proofs.Reaching.{Reaches, reaches_on, one_turn}, proofs.Sent.{packets_some}, proofs.Replying.{HasAsked, comes_there, HasReplied, replies}, proofs.Travels.{Now}, proofs.WalkedGoings.{IsKept, kept_is_lawful, handed_is_kept, asking_is_kept}, proofs.WalkedSteps.{asked_walker, AsksUnder, asks_under, some_gives}}
use Rattle.net_tables.{specs.Routing.{Holds}, specs.Repositories.{records_by_place}, specs.TwoPlans.{Tables}}
use Rattle.net_tables.specs.Lawful as ways

-- a step leaves the walker with the walk's limits, and waiting for nothing
taken_state : (old : WalkState) (step : WalkStep) (new : WalkState) → MayMake old (Ok step) new → HasTaken old (Ok step) new
taken_state old step new (inl ignored) = absurd (let e : Ok step ≡ Err ignored.fault = ignored.told in cc)
taken_state old step new (inr (inl failed)) = absurd (let e : Ok step ≡ Err failed.fault = failed.told in cc)
taken_state old step new (inr (inr taken)) = taken

module _ (tables : Tables) (cert : Certificate) (lawful : ways.IsLawful tables cert) (own n : ℕ) (small : own < 256) (back : HasWay tables n own)
    (right_records : IsLawful (records_by_place tables.plan cert n)) (all : All (λ e. AreBytes e.bytes) (records_by_place tables.plan cert n)) (first : WalkerValue) where
  -- the walker numbered 1 stands for these exchanges, and may ask in a network at rest
  pub record IsReady (w : WalkedState) (xs : List Exchange) : Type 0 where
    pub rest : IsAtRest tables.plan cert n w.network
    pub walker : WalkerValue
    pub there : w.walker 1 ≡ Some walker
    pub same : IsSameWalker first walker
    pub home : Holds tables.plan walker.node own
    pub held : Holds tables.plan n walker.eid
    pub way : HasWay tables walker.node walker.eid
    pub kept : IsKept tables.plan walker
    pub idle : walker.walk.waiting ≡ None
    pub ended : walker.ended ≡ None
    pub least : 8 ≤ walker.walk.count
    pub most : walker.walk.count ≤ five_packets (unit_of tables.plan)
    pub few : length (records_by_place tables.plan cert n) ≤ walker.walk.max_records
    pub fits : sum_by (λ (e : Entry). length e.bytes) (records_by_place tables.plan cert n) ≤ walker.walk.max_bytes
    pub walk : Walk (records_by_place tables.plan cert n) walker.walk.count xs
    pub stands : HasTakenIn walker.walk xs
    pub taken : walker.walk.taken ≡ length xs

  -- one exchange more
  pub record HasExchanged (w : WalkedState) (xs : List Exchange) : Type 0 where
    pub new : WalkedState
    pub x : Exchange
    pub run : Reaches tables w new
    pub ready : IsReady new (xs ++ x ∷ [])
    pub made : new.network.made ≤ w.network.made + 6

  module _ (w : WalkedState) (xs : List Exchange) (ready : IsReady w xs) (r : PartRequest) (due : ready.walker.walk.due ≡ Some r) (left : w.network.made + 70 ≤ most_flights) where
    may_ask : (why : WalkRefusal) → ¬ IsWalkRefused tables.plan w (Ask 1) why
    may_ask (Also N01) refused = refused
    may_ask (Also N02) refused = refused
    may_ask (Also N03) refused = refused
    may_ask (Also N04) refused = refused
    may_ask (Also N05) refused = refused
    may_ask (Also N06) refused = omega (arith, left, refused)
    may_ask (Also N07) refused = refused
    may_ask N08 refused = refused
    may_ask N09 refused = refused
    may_ask N10 refused = refused
    may_ask N11 refused = let e : None ≡ Some ready.walker = sym refused ∙ ready.there in cc
    may_ask N12 refused =
        let waits = rw ready.there at refused in
        waits.2 own ready.home
        (rest_is_settled tables.plan cert n w.network ready.rest (asking_key own ready.walker) ready.walker.eid, rest_is_settled tables.plan cert n w.network ready.rest (answering_key ready.walker) own)
    may_ask N13 refused = not_over (rw ready.there at refused)
      where
        not_over : ¬ IsOver ready.walker
        not_over (inl failed) = let e : true ≡ false = sym failed ∙ ready.stands.goes in cc
        not_over (inr none) = let e : None ≡ Some r = sym none ∙ due in cc

    not_over : ¬ IsOver ready.walker
    not_over (inl failed) = let e : true ≡ false = sym failed ∙ ready.stands.goes in cc
    not_over (inr none) = let e : None ≡ Some r = sym none ∙ due in cc

    may_ask_so : IsLawfulWalker tables.plan ready.walker
    may_ask_so =
        let l = kept_is_lawful tables.plan ready.walker ready.kept in
        record { home = (own, small, ready.home); tag = l.tag; eid = l.eid; due = l.due; outstanding = l.outstanding; free = l.free }

    most_there : ready.walker.walk.count ≤ 4079
    most_there = part_fits tables.plan ready.walker.walk.count ready.most

    counted : r.count ≡ ready.walker.walk.count
    counted = elim (stands (records_by_place tables.plan cert n) ready.walker.walk.count xs right_records ready.least most_there ready.walk) [
      | inl s ↦ ap (λ (q : PartRequest). q.count) (same_Some r s.r (sym due ∙ ready.stands.due ∙ s.asked)) ∙ s.due.counted
      | inr past ↦ absurd (let f : None ≡ Some r = sym past.asked ∙ sym ready.stands.due ∙ due in cc)
    ]

    some_request : (id : ℕ) → 0 < length (get_pdr_request_bytes (asked_under id r))
    some_request id = omega arith

    short_request : (id : ℕ) → length (get_pdr_request_bytes (asked_under id r)) ≤ (unit_of tables.plan)
    short_request id = omega (arith, least_unit tables.plan)

    -- the walker has asked
    module _ (id : ℕ) (ids : IdSet) (gives : Gives ready.walker.ids id ids) (asks : AsksUnder tables w.network ready.walker own r id ids) where
      abbrev asked : WalkerValue
      asked = asked_walker ready.walker id ids

      abbrev walkers : ℕ → Option WalkerValue
      walkers = with_walker w.walker 1 (asked_walker ready.walker id ids)

      abbrev At : NetworkState → WalkedState
      At u = Now tables cert lawful walkers w.begun u

      abbrev sent : NetworkState
      sent = with_packet w.network ready.walker.node asks.packet

      abbrev Came : TerminusState → Type 0
      Came t = HasAsked tables cert lawful walkers w.begun n ready.walker.eid ready.walker.node (asking_key own ready.walker) (get_pdr_request_bytes (asked_under id r)) ready.held ready.way refl
          (some_request id) (short_request id) sent t

      puts_in : Reaches tables w (At sent)
      puts_in = one_turn tables w (Ask 1) (Asked 1 (w.network.made + 1)) (At sent) (λ node bytes e. cc) (may_ask, (refl, ready.walker, asked, ready.there, asks.asking, refl, refl))

      kept_asked : IsKept tables.plan asked
      kept_asked = asking_is_kept tables w.network ready.walker (w.network.made + 1) sent asked ready.kept asks.asking

      comes : Came ready.rest.state
      comes =
          comes_there tables cert lawful walkers w.begun n ready.walker.eid ready.walker.node (asking_key own ready.walker) (get_pdr_request_bytes (asked_under id r)) ready.held ready.way refl
          (some_request id) (short_request id) sent (w.network.made + 1) asks.packet ready.rest.state asks.are (packet_there w.network ready.walker.node asks.packet)
          (λ j other. packet_others w.network ready.walker.node asks.packet j other ∙ ready.rest.none j) ready.rest.closed ready.rest.there

      abbrev Replied : NetworkState → TerminusState → Type 0
      Replied u t = HasReplied tables cert lawful walkers w.begun n ready.walker.eid own (asking_key own ready.walker) id r u t

      abbrev waiting_there : TerminusState
      waiting_there = with_waiting ready.rest.state (record { key = asking_key own ready.walker; bytes = get_pdr_request_bytes (asked_under id r) })

      answers : (c : Came ready.rest.state) → Replied c.new waiting_there
      answers c =
          replies tables cert lawful walkers w.begun n ready.walker.eid own (asking_key own ready.walker) id r c.new waiting_there ready.held refl right_records all gives.next.free.0
          (ready.kept.due r due) c.none c.closed (omega (arith, c.made, left)) c.there
          (ap (λ ms. ms ++ record { key = asking_key own ready.walker; bytes = get_pdr_request_bytes (asked_under id r) } ∷ []) (ready.rest.waits n ready.rest.state ready.rest.there)) ready.rest.records ready.rest.tid

      -- at most five packets
      packets_few : (c : Came ready.rest.state) (a : Replied c.new waiting_there) → length a.packets ≤ 5
      packets_few c a = few_packets (unit_of tables.plan) 5 a.message own (answering_key ready.walker) 0 a.packets a.are (let few = a.few in let count = counted in let most = five_fit tables.plan ready.walker.walk.count ready.most in omega arith)

      short : (c : Came ready.rest.state) (a : Replied c.new waiting_there) → length a.message ≤ 4096
      short c a = let few = a.few in let count = counted in let most = part_fits tables.plan ready.walker.walk.count ready.most in omega arith

      abbrev Brought : (c : Came ready.rest.state) (a : Replied c.new waiting_there) → Type 0
      Brought c a = Brings tables cert lawful walkers w.begun ready.walker.node n own (answering_key ready.walker) a.message (short c a) ready.home back refl a.new

      brought : (c : Came ready.rest.state) (a : Replied c.new waiting_there) → Brought c a
      brought c a =
          let many = packets_some (unit_of tables.plan) a.message own (answering_key ready.walker) a.packets a.are a.some in
          let some = a.some in
          all_brought tables cert lawful walkers w.begun ready.walker.node n own (answering_key ready.walker) a.message (short c a) ready.home back refl a.packets a.new a.base (omega arith)
          (packets_join (unit_of tables.plan) a.message own (answering_key ready.walker) 0 a.packets some a.are)
          (all_from (IsOfMessage tables cert lawful walkers w.begun ready.walker.node n own (answering_key ready.walker) a.message (short c a) ready.home back refl) a.packets
          (λ i p at. (a.are.of_key i p at, a.are.addressed i p at)))
          a.under a.closed

      abbrev exchange : (c : Came ready.rest.state) (a : Replied c.new waiting_there) → Exchange
      exchange c a = record { request = r; answer = a.outcome }

      is_due : (c : Came ready.rest.state) (a : Replied c.new waiting_there) → IsDueAnswer asked.walk a.message (records_by_place tables.plan cert n) xs (exchange c a)
      is_due c a = record {
        lawful = right_records;
        walk = ready.walk;
        stands = record { collects = ready.stands.collects; due = ready.stands.due; goes = ready.stands.goes };
        due = due;
        answered = a.answered;
        head = record { reserved = false; instance = id };
        waiting = refl;
        spelled = a.spelled;
      }

      takes : (c : Came ready.rest.state) (a : Replied c.new waiting_there) → (b : Brought c a) → HasExchanged w xs
      takes c a b = by (takes_on (records_by_place tables.plan cert n) asked.walk a.message xs (exchange c a) ready.least most_there (is_due c a) ready.few ready.fits)
        where
          by : TakesOn (records_by_place tables.plan cert n) asked.walk a.message xs (exchange c a) ready.least most_there (is_due c a) → HasExchanged w xs
          by t =
              let free : IdSet = record { out = λ i. not (nat_eq i id) && ids.out i; last = ids.last } in
              let given_back : TakesBack ids id free = record { out = λ i. refl; last = refl } in
              let z : WalkerValue = record asked { walk = t.new; ids = free; ended = ready.walker.ended } in
              let new : WalkedState = record { network = b.new; walker = with_walker walkers 1 z; begun = w.begun } in
              let made = taken_state asked.walk t.step t.new (may_make asked.walk a.message (Ok t.step) t.new t.takes) in
              let last : Reaches tables (At b.before) new =
              one_turn tables (At b.before) (Happening (Move b.number false))
              (Happened (Entered b.number ready.walker.node (answering_key ready.walker) (Whole a.message)) (Some (record { number = 1; result = Ok t.step }))) new (λ node bytes e. cc) (
                never_refused tables (At b.before) (Move b.number false),
                (
                  b.step,
                  record {
                    walker = asked;
                    message = a.message;
                    walk = t.new;
                    ids = free;
                    there = refl;
                    meant = (b.number, refl);
                    takes = t.takes;
                    memory = λ e. cc;
                    given_back = (id, refl, given_back);
                    is = refl;
                  },
                  refl,
                ),
              ) in
              let termini : (m : ℕ) → m ≢ n → b.new.terminus m ≡ w.network.terminus m = λ m other. ap (λ terminus. terminus m) b.terminus ∙ a.elsewhere m other ∙ c.elsewhere m other in
              let there : b.new.terminus n ≡ Some a.state = ap (λ terminus. terminus n) b.terminus ∙ a.there in
              let count : t.new.count ≡ ready.walker.walk.count = ap (λ (v : WalkState). v.count) made.is in
              record {
                new = new;
                x = exchange c a;
                run = reaches_on tables w (At sent) new puts_in
                    (reaches_on tables (At sent) (At c.new) new c.run
                    (reaches_on tables (At c.new) (At a.new) new a.run
                    (reaches_on tables (At a.new) (At b.before) new b.run last)));
                ready = record {
                  rest = record {
                    none = b.none;
                    closed = b.closed;
                    waits = waits_none there termini;
                    state = a.state;
                    there = there;
                    records = a.records ∙ ready.rest.records;
                    tid = a.tid;
                  };
                  walker = z;
                  there = refl;
                  same = record { node = ready.same.node; eid = ready.same.eid; tag = ready.same.tag; count = count ∙ ready.same.count };
                  home = ready.home;
                  held = ready.held;
                  way = ready.way;
                  kept = handed_is_kept tables.plan asked a.message (Ok t.step) t.new free kept_asked a.bytes t.takes (id, refl, given_back);
                  idle = ap (λ (v : WalkState). v.waiting) made.is;
                  ended = ready.ended;
                  least = let least = ready.least in omega arith;
                  most = let most = part_fits tables.plan ready.walker.walk.count ready.most in omega arith;
                  few = let same = ap (λ (v : WalkState). v.max_records) made.is in let few = ready.few in omega arith;
                  fits = let same = ap (λ (v : WalkState). v.max_bytes) made.is in let fits = ready.fits in omega arith;
                  walk = t.walks.walk;
                  stands = t.walks.stands;
                  taken = ap (λ (v : WalkState). v.taken) made.is ∙ ap (λ k. k + 1) ready.taken ∙ sym (length_push xs (exchange c a));
                };
                made = let few = packets_few c a in let one = b.made in let two = a.made in let three = c.made in omega arith;
              }
            where
              waits_none : b.new.terminus n ≡ Some a.state → ((m : ℕ) → m ≢ n → b.new.terminus m ≡ w.network.terminus m) → (m : ℕ) (t : TerminusState) → b.new.terminus m ≡ Some t → t.waiting ≡ []
              waits_none there elsewhere m t is = elim (cases_order m n) [
                | inl same ↦ ap (λ (s : TerminusState). s.waiting) (same_Some t a.state (sym is ∙ ap b.new.terminus same ∙ there)) ∙ a.rests
                | inr (inl less) ↦ ready.rest.waits m t (sym (elsewhere m (λ same. omega arith)) ∙ is)
                | inr (inr more) ↦ ready.rest.waits m t (sym (elsewhere m (λ same. omega arith)) ∙ is)
              ]

      plays : HasExchanged w xs
      plays = let c = comes in let a = answers c in takes c a (brought c a)

    pub one_exchange : HasExchanged w xs
    unfolding may_ask_so
    one_exchange =
        let free = may_ask_so.free ready.idle in
        let (id, ids, gives) = some_gives ready.walker.ids free.0 free.1 in
        let settled : AreSettled tables.plan w.network own ready.walker =
        (rest_is_settled tables.plan cert n w.network ready.rest (asking_key own ready.walker) ready.walker.eid, rest_is_settled tables.plan cert n w.network ready.rest (answering_key ready.walker) own) in
        plays id ids gives
        (asks_under tables w.network ready.walker may_ask_so r due not_over (λ refused. omega (arith, left, refused)) id ids (inr (ready.idle, settled, gives)))
