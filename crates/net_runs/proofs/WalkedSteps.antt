-- Whatever the event, some step of a network with walkers is there.
use Rattle.std.{proofs.Common.{◌≡◌, ◌⊎◌, ℕ, zero, suc, ◌+◌, ◌-◌, ◌<◌, ◌≤◌, Bool, true, false, not, ◌&&◌, ◌||◌, nat_eq, List, [], ◌∷◌, length, Option, Some, None, Result, Ok, Err, refl, sym, ap, ◌∙◌, subst, inl, inr, arith}, specs.Prelude.{IsSomeAnd, MatchResult}, proofs.lemmas.Option.{same_Some}}
use Rattle.mctp_transport.{specs.PacketValues.{PacketValue, KeyValue, IsPacketValue, packet_value_bytes}, specs.Cutting.{ArePacketsOf}, specs.Hearing.{Whole, Held, Dropped}, proofs.PacketLists.{payload_at}, proofs.Sending.{few_packets, many_packets}}
use Rattle.pldm_message.{specs.InstanceIds.{IdSet, IsFree, Gives, TakesBack, first_place, steps_to}, specs.Pdrs.{PartRequest, get_pdr_request_bytes}}
use Rattle.pdr_repository.{specs.declared.walk_fault.Step.{Step as WalkStep}, specs.declared.walk_fault.WalkFault.{WalkFault}, specs.Walkers.{asked_under}, proofs.Deciding.{OrNot, both_or_not, either_or_not, not_or_not, same_or_not, less_or_not, at_most_or_not, some_and_or_not, none_or_not, implied_or_not}, proofs.Searching.{search_below, all_or_not, least_below, three_or_not}, proofs.SomeTakings.{takes_something}}
use Rattle.plan_values.specs.declared.plan.Plan.{Plan}
use Rattle.net_runs.{proofs.Units.{least_unit}, specs.States.{NetworkState, with_packet, unit_of}, specs.Events.{EventValue, Put, OutcomeValue, PutIn, Moved, Entered, Stopped, Lost, Expired, Answered, Silent, Switched, Refused, Refusal, N01, N02, N03, N04, N05, N06, N07, IsRefused, most_flights}, specs.Walkers.{WalkerValue, WalkedState, WalkedEvent, Happening, BeginWalk, Ask, TellWalk, WalkRefusal, Also, N08, N09, N10, N11, N12, N13, Happened, Begun, Asked, ToldWalk, WalkRefused, IsThere, IsOver, MustWait, IsWalkRefused, walk_refusal_number, IsFirstWalkRefusal, fresh_walker, with_walker, asking_key, answering_key, AreSettled, ended_after, standing_of, five_packets}, specs.WalkedRuns.{IsAsking, IsFor}, specs.WalkedGoing.{IsLawfulWalker, CanGoOn, WalkedGoesOn}, proofs.SettledOrNot.{both_settled_or_not, key_or_not}, proofs.Sent.{message_packets}, proofs.Steps.{some_step, holds_or_not, true_or_not}, proofs.FirstAsks.{never_refused}}
use Rattle.net_tables.{specs.Routing.{Holds}, specs.TwoPlans.{Tables}, proofs.Elements.{holder_within}}
use Rattle.net_runs.specs.Networks as network

-- ---- the least refusal

walk_numbered : ℕ → WalkRefusal
walk_numbered zero = Also N01
walk_numbered (suc zero) = Also N02
walk_numbered (suc (suc zero)) = Also N03
walk_numbered (suc (suc (suc zero))) = Also N04
walk_numbered (suc (suc (suc (suc zero)))) = Also N05
walk_numbered (suc (suc (suc (suc (suc zero))))) = Also N06
walk_numbered (suc (suc (suc (suc (suc (suc zero)))))) = Also N07
walk_numbered (suc (suc (suc (suc (suc (suc (suc zero))))))) = N08
walk_numbered (suc (suc (suc (suc (suc (suc (suc (suc zero)))))))) = N09
walk_numbered (suc (suc (suc (suc (suc (suc (suc (suc (suc zero))))))))) = N10
walk_numbered (suc (suc (suc (suc (suc (suc (suc (suc (suc (suc zero)))))))))) = N11
walk_numbered (suc (suc (suc (suc (suc (suc (suc (suc (suc (suc (suc zero))))))))))) = N12
walk_numbered (suc (suc (suc (suc (suc (suc (suc (suc (suc (suc (suc (suc n)))))))))))) = N13

-- the refusal at a place below its number
record HasPlace (why : WalkRefusal) : Type 0 where
  place : ℕ
  within : place < 13
  is : walk_numbered place ≡ why
  number : walk_refusal_number why ≡ place + 1

has_place : (why : WalkRefusal) → HasPlace why
unfolding walk_numbered
has_place (Also N01) = record { place = 0; within = omega arith; is = refl; number = refl }
has_place (Also N02) = record { place = 1; within = omega arith; is = refl; number = refl }
has_place (Also N03) = record { place = 2; within = omega arith; is = refl; number = refl }
has_place (Also N04) = record { place = 3; within = omega arith; is = refl; number = refl }
has_place (Also N05) = record { place = 4; within = omega arith; is = refl; number = refl }
has_place (Also N06) = record { place = 5; within = omega arith; is = refl; number = refl }
has_place (Also N07) = record { place = 6; within = omega arith; is = refl; number = refl }
has_place N08 = record { place = 7; within = omega arith; is = refl; number = refl }
has_place N09 = record { place = 8; within = omega arith; is = refl; number = refl }
has_place N10 = record { place = 9; within = omega arith; is = refl; number = refl }
has_place N11 = record { place = 10; within = omega arith; is = refl; number = refl }
has_place N12 = record { place = 11; within = omega arith; is = refl; number = refl }
has_place N13 = record { place = 12; within = omega arith; is = refl; number = refl }

first_or_none : (plan : Plan) (w : WalkedState) (event : WalkedEvent) → ((why : WalkRefusal) → OrNot (IsWalkRefused plan w event why))
    → ((why : WalkRefusal) × IsFirstWalkRefusal plan w event why) ⊎ ((why : WalkRefusal) → ¬ IsWalkRefused plan w event why)
first_or_none plan w event test =
    elim (least_below (λ place. IsWalkRefused plan w event (walk_numbered place)) (λ place. walk_refusal_number (walk_numbered place)) (λ place. test (walk_numbered place)) 13) [
      | inl (place, small, is, least) ↦ inl (
        walk_numbered place,
        (
          is,
          λ other less refused.
              let o = has_place other in
              let R : WalkRefusal → Type 0 = IsWalkRefused plan w event in
              let most = least o.place o.within (subst R (sym o.is) refused) in
              let same : walk_refusal_number (walk_numbered o.place) ≡ walk_refusal_number other = ap walk_refusal_number o.is in
              omega arith,
        ),
      )
      | inr none ↦ inr (λ why refused.
          let o = has_place why in
          let R : WalkRefusal → Type 0 = IsWalkRefused plan w event in
          none o.place o.within (subst R (sym o.is) refused))
    ]

-- ---- each refusal applies or doesn't

over_or_not : (walker : WalkerValue) → OrNot (IsOver walker)
over_or_not walker = either_or_not _ _ (true_or_not walker.walk.failed) (none_or_not walker.walk.due)

-- the walker of the number has this node, endpoint ID and tag, or has others
abbrev IsOne : WalkedState → (node eid tag : ℕ) → ℕ → Type 0
IsOne w node eid tag k = (x : WalkerValue) × (w.walker k ≡ Some x) × (x.node ≡ node) × (x.eid ≡ eid) × (x.tag ≡ tag)

abbrev IsNone : WalkedState → (node eid tag : ℕ) → ℕ → Type 0
IsNone w node eid tag k = (x : WalkerValue) → w.walker k ≡ Some x → ¬ ((x.node ≡ node) × (x.eid ≡ eid) × (x.tag ≡ tag))

module _ (tables : Tables) (w : WalkedState) (can : CanGoOn tables.plan w) where
  waits_or_not : (k : ℕ) → OrNot (IsSomeAnd (w.walker k) (MustWait tables.plan w.network))
  waits_or_not k = by (w.walker k) refl
    where
      by : (o : Option WalkerValue) → w.walker k ≡ o → OrNot (IsSomeAnd o (MustWait tables.plan w.network))
      by None is = inr (λ h. absurd h)
      by (Some walker) is =
          let own = (can.walkers.lawful k walker is).home in
          three_or_not _ _ _ (not_or_not _ (over_or_not walker)) (none_or_not walker.walk.waiting)
          (elim (both_settled_or_not tables.plan w.network can.flights own.0 walker) [
            | inl settled ↦ inr (λ none. none own.0 own.2 settled)
            | inr not ↦ inl (λ other holds settled.
                let S : ℕ → Type 0 = λ e. AreSettled tables.plan w.network e walker in
                not (subst S (same_Some other own.0 (sym holds ∙ own.2)) settled))
          ])

  there_or_not : (node eid tag : ℕ) → OrNot (IsThere w node eid tag)
  there_or_not node eid tag = elim (search_below (IsOne w node eid tag) (IsNone w node eid tag) test (w.begun + 1)) [
    | inl (k, small, one) ↦ inl (k, one.0, one.1, one.2, one.3, one.4)
    | inr none ↦ inr (λ (k, x, there, a, b, c). none k (let h = can.walkers.numbered k x there in omega arith) x there (a, b, c))
  ]
    where
      test : (k : ℕ) → IsOne w node eid tag k ⊎ IsNone w node eid tag k
      test k = by (w.walker k) refl
        where
          by : (o : Option WalkerValue) → w.walker k ≡ o → IsOne w node eid tag k ⊎ IsNone w node eid tag k
          by None is = inr (λ x stands. let e : None ≡ Some x = sym is ∙ stands in cc)
          by (Some x) is = elim (three_or_not _ _ _ (same_or_not x.node node) (same_or_not x.eid eid) (same_or_not x.tag tag)) [
            | inl same ↦ inl (x, is, same.0, same.1, same.2)
            | inr other ↦ inr (λ y stands same.
                let I : WalkerValue → Type 0 = λ v. (v.node ≡ node) × (v.eid ≡ eid) × (v.tag ≡ tag) in
                other (subst I (same_Some y x (sym stands ∙ is)) same))
          ]

  no_terminus_or_not : (eid : ℕ) → OrNot ((n : ℕ) → Holds tables.plan n eid → w.network.terminus n ≡ None)
  no_terminus_or_not eid =
      all_or_not (λ n. Holds tables.plan n eid → w.network.terminus n ≡ None)
      (λ n. implied_or_not _ _ (holds_or_not tables.plan n eid) (none_or_not (w.network.terminus n))) (length tables.plan.nodes.items)
      (λ n large holds. let inside = holder_within tables.plan n eid holds in absurd (omega arith))

  walk_refused_or_not : (event : WalkedEvent) (why : WalkRefusal) → OrNot (IsWalkRefused tables.plan w event why)
  walk_refused_or_not (BeginWalk node eid tag count) (Also N01) = at_most_or_not (length tables.plan.nodes.items) node
  walk_refused_or_not (BeginWalk node eid tag count) N08 = there_or_not node eid tag
  walk_refused_or_not (BeginWalk node eid tag count) N09 = no_terminus_or_not eid
  walk_refused_or_not (BeginWalk node eid tag count) N10 = either_or_not _ _ (less_or_not count 8) (less_or_not (five_packets (unit_of tables.plan)) count)
  walk_refused_or_not (Ask k) (Also N06) = less_or_not (most_flights - w.network.made) 1
  walk_refused_or_not (Ask k) N11 = none_or_not (w.walker k)
  walk_refused_or_not (Ask k) N12 = waits_or_not k
  walk_refused_or_not (Ask k) N13 = some_and_or_not (w.walker k) _ over_or_not
  walk_refused_or_not (TellWalk k) N11 = none_or_not (w.walker k)
  walk_refused_or_not _ _ = inr (λ refused. refused)

-- ---- what is put in

-- a packet of a message may be put in, where the destination and the key fit their bits
pub packets_are_frames : (unit : ℕ) (message : List ℕ) (d : ℕ) (key : KeyValue) (p : PacketValue) → d < 256 → key.source < 256 → key.tag < 8
    → ArePacketsOf unit message d key 0 (p ∷ []) → IsPacketValue unit p
packets_are_frames unit message d key p small narrow short are =
    let reserved = are.reserved 0 p refl in
    let to = are.addressed 0 p refl in
    let mine = are.of_key 0 p refl in
    let number = are.numbers 0 p refl in
    let source = ap (λ (k : KeyValue). k.source) mine in
    let tag = ap (λ (k : KeyValue). k.tag) mine in
    record {
      reserved = omega arith;
      destination = omega arith;
      source = omega arith;
      number = omega arith;
      tag = omega arith;
      some = (are.cut.last 0 p.payload (payload_at (p ∷ []) 0 p refl) refl).0;
      most = (are.cut.last 0 p.payload (payload_at (p ∷ []) 0 p refl) refl).1;
    }

-- a short message is one packet
pub one_packet : (plan : Plan) (message : List ℕ) (d : ℕ) (key : KeyValue) → 0 < length message → length message ≤ unit_of plan → (p : PacketValue) × ArePacketsOf (unit_of plan) message d key 0 (p ∷ [])
one_packet plan message d key some short = by (message_packets plan message d key)
  where
    by : (ps : List PacketValue) × ArePacketsOf (unit_of plan) message d key 0 ps → (p : PacketValue) × ArePacketsOf (unit_of plan) message d key 0 (p ∷ [])
    by ([], are) = absurd (omega (arith, many_packets (unit_of plan) message d key 0 [] are))
    by (p ∷ q ∷ ps, are) = absurd (omega (arith, few_packets (unit_of plan) 1 message d key 0 (p ∷ q ∷ ps) are (omega arith)))
    by (p ∷ [], are) = (p, are)

-- the next free ID goes out
pub some_gives : (ids : IdSet) (id : ℕ) → IsFree ids id → (next : ℕ) × (new : IdSet) × Gives ids next new
some_gives ids id free = elim (least_below (λ i. IsFree ids i) (λ i. steps_to (first_place ids.last) i) free_or_not 32) [
  | inl (next, small, is, least) ↦ (
    next,
    record { out = λ i. nat_eq i next || ids.out i; last = Some next },
    record { next = record { free = is; first = λ other has. least other has.0 has }; out = λ i. refl; last = refl },
  )
  | inr none ↦ absurd (none id free.0 free)
]
  where
    free_or_not : (i : ℕ) → OrNot (IsFree ids i)
    free_or_not i = both_or_not _ _ (less_or_not i 32) (false_or_not (ids.out i))
      where
        false_or_not : (b : Bool) → OrNot (b ≡ false)
        false_or_not true = inr (λ e. cc)
        false_or_not false = inl refl

-- the walker's request is outstanding
abbrev pub asked_walker : WalkerValue → ℕ → IdSet → WalkerValue
asked_walker walker id ids = record walker { walk = record walker.walk { waiting = Some id }; ids = ids }

-- the request that is due is put in, as one packet
pub record AsksUnder (tables : Tables) (w : NetworkState) (walker : WalkerValue) (own : ℕ) (r : PartRequest) (id : ℕ) (ids : IdSet) : Type 0 where
  pub packet : PacketValue
  pub are : ArePacketsOf (unit_of tables.plan) (get_pdr_request_bytes (asked_under id r)) walker.eid (asking_key own walker) 0 (packet ∷ [])
  pub asking : IsAsking tables w walker (w.made + 1) (with_packet w walker.node packet) (asked_walker walker id ids)

pub asks_under : (tables : Tables) (w : NetworkState) (walker : WalkerValue) (lawful : IsLawfulWalker tables.plan walker) (r : PartRequest) → walker.walk.due ≡ Some r → ¬ IsOver walker
    → ¬ (most_flights - w.made < 1) → (id : ℕ) (ids : IdSet)
    → ((walker.walk.waiting ≡ Some id) × (ids ≡ walker.ids)) ⊎ ((walker.walk.waiting ≡ None) × AreSettled tables.plan w lawful.home.0 walker × Gives walker.ids id ids)
    → AsksUnder tables w walker lawful.home.0 r id ids
asks_under tables w walker lawful r due not_over left id ids under =
    let request = get_pdr_request_bytes (asked_under id r) in
    let (p, are) = one_packet tables.plan request walker.eid (asking_key lawful.home.0 walker) (omega arith) (omega (arith, least_unit tables.plan)) in
    let frame = packets_are_frames (unit_of tables.plan) request walker.eid (asking_key lawful.home.0 walker) p lawful.eid lawful.home.1 lawful.tag are in
    record {
      packet = p;
      are = are;
      asking = record {
        own = lawful.home.0;
        id = id;
        request = request;
        packet = p;
        bytes = packet_value_bytes p;
        walk = record walker.walk { waiting = Some id };
        ids = ids;
        holds = lawful.home.2;
        under = under;
        asks = inr (not_over, (r, due, lawful.due r due, refl, refl));
        cut = are;
        spelled = (frame, refl);
        put = (may_put p frame, (p, (frame, refl), refl, refl, refl));
        is = refl;
      };
    }
  where
    may_put : (p : PacketValue) → IsPacketValue (unit_of tables.plan) p → (why : Refusal) → ¬ IsRefused tables w (Put walker.node (packet_value_bytes p)) why
    may_put p frame N01 refused = let inside = holder_within tables.plan walker.node lawful.home.0 lawful.home.2 in omega (arith, inside, refused)
    may_put p frame N02 refused = refused p (frame, refl)
    may_put p frame N03 refused = refused
    may_put p frame N04 refused = refused
    may_put p frame N05 refused = refused
    may_put p frame N06 refused = left refused
    may_put p frame N07 refused = refused

-- ---- the steps

module _ (tables : Tables) (w : WalkedState) (can : CanGoOn tables.plan w) where
  -- a walker that isn't over and needn't wait asks
  asks : (k : ℕ) (walker : WalkerValue) → w.walker k ≡ Some walker → ((why : WalkRefusal) → ¬ IsWalkRefused tables.plan w (Ask k) why)
      → (new : NetworkState) × (next : WalkerValue) × (flight : ℕ) × IsAsking tables w.network walker flight new next
  asks k walker is may = is_due walker.walk.due refl
    where
      lawful : IsLawfulWalker tables.plan walker
      lawful = can.walkers.lawful k walker is

      not_over : ¬ IsOver walker
      not_over over = may N13 (rw is over)

      put_under : (r : PartRequest) → walker.walk.due ≡ Some r → (id : ℕ) (ids : IdSet)
          → ((walker.walk.waiting ≡ Some id) × (ids ≡ walker.ids)) ⊎ ((walker.walk.waiting ≡ None) × AreSettled tables.plan w.network lawful.home.0 walker × Gives walker.ids id ids)
          → (new : NetworkState) × (next : WalkerValue) × (flight : ℕ) × IsAsking tables w.network walker flight new next
      put_under r due id ids under =
          let a = asks_under tables w.network walker lawful r due not_over (may (Also N06)) id ids under in
          (with_packet w.network walker.node a.packet, asked_walker walker id ids, w.network.made + 1, a.asking)

      waits : (r : PartRequest) → walker.walk.due ≡ Some r → (o : Option ℕ) → walker.walk.waiting ≡ o → (new : NetworkState) × (next : WalkerValue) × (flight : ℕ) × IsAsking tables w.network walker flight new next
      waits r due (Some id) waiting = put_under r due id walker.ids (inl (waiting, refl))
      waits r due None waiting = elim (both_settled_or_not tables.plan w.network can.flights lawful.home.0 walker) [
        | inl settled ↦
            let free = lawful.free waiting in
            let (id, ids, gives) = some_gives walker.ids free.0 free.1 in
            put_under r due id ids (inr (waiting, settled, gives))
        | inr not ↦ absurd (may N12 (rw is (
          not_over,
          waiting,
          λ other holds settled.
              let S : ℕ → Type 0 = λ e. AreSettled tables.plan w.network e walker in
              not (subst S (same_Some other lawful.home.0 (sym holds ∙ lawful.home.2)) settled),
        )))
      ]

      is_due : (o : Option PartRequest) → walker.walk.due ≡ o → (new : NetworkState) × (next : WalkerValue) × (flight : ℕ) × IsAsking tables w.network walker flight new next
      is_due None none = absurd (not_over (inr none))
      is_due (Some r) due = waits r due walker.walk.waiting refl

  -- the walker for which a message is, if there is one
  for_or_not : (walker : WalkerValue) (outcome : OutcomeValue) → ((message : List ℕ) × IsFor walker outcome message) ⊎ ((message : List ℕ) → ¬ IsFor walker outcome message)
  for_or_not walker (Entered flight node key (Whole message)) = elim (both_or_not _ _ (same_or_not node walker.node) (key_or_not key (answering_key walker))) [
    | inl (at, mine) ↦ inl (message, (flight, λ i. Entered flight (at i) (mine i) (Whole message)))
    | inr other ↦ inr (λ said (number, is). other (let at : node ≡ walker.node = cc in at, let mine : key ≡ answering_key walker = cc in mine))
  ]
  for_or_not walker (Entered flight node key Held) = inr (λ message (number, is). cc)
  for_or_not walker (Entered flight node key (Dropped why)) = inr (λ message (number, is). cc)
  for_or_not walker (PutIn number node) = inr (λ message (flight, is). cc)
  for_or_not walker (Moved number node hops) = inr (λ message (flight, is). cc)
  for_or_not walker (Stopped number why) = inr (λ message (flight, is). cc)
  for_or_not walker (Lost number) = inr (λ message (flight, is). cc)
  for_or_not walker (Expired node was_open) = inr (λ message (flight, is). cc)
  for_or_not walker (Answered node a b) = inr (λ message (flight, is). cc)
  for_or_not walker (Silent node) = inr (λ message (flight, is). cc)
  for_or_not walker (Switched node) = inr (λ message (flight, is). cc)
  for_or_not walker (Refused why) = inr (λ message (flight, is). cc)

  abbrev IsForIt : OutcomeValue → ℕ → Type 0
  IsForIt outcome k = (walker : WalkerValue) × (message : List ℕ) × (w.walker k ≡ Some walker) × IsFor walker outcome message

  abbrev IsForOthers : OutcomeValue → ℕ → Type 0
  IsForOthers outcome k = (walker : WalkerValue) (message : List ℕ) → w.walker k ≡ Some walker → ¬ IsFor walker outcome message

  for_it_or_not : (outcome : OutcomeValue) (k : ℕ) → IsForIt outcome k ⊎ IsForOthers outcome k
  for_it_or_not outcome k = by (w.walker k) refl
    where
      by : (o : Option WalkerValue) → w.walker k ≡ o → IsForIt outcome k ⊎ IsForOthers outcome k
      by None none = inr (λ walker message is. let e : None ≡ Some walker = sym none ∙ is in absurd (cc))
      by (Some walker) is = elim (for_or_not walker outcome) [
        | inl (message, meant) ↦ inl (walker, message, is, meant)
        | inr others ↦ inr (λ other message stands meant.
            let F : WalkerValue → Type 0 = λ x. IsFor x outcome message in
            others message (subst F (same_Some other walker (sym stands ∙ is)) meant))
      ]

  happens_to_walkers : (event : EventValue) (outcome : OutcomeValue) (new : NetworkState) → network.Step tables w.network event outcome new → WalkedGoesOn tables w (Happening event)
  happens_to_walkers event outcome new step = elim (search_below (IsForIt outcome) (IsForOthers outcome) (for_it_or_not outcome) (w.begun + 1)) [
    | inr none ↦ (
      Happened outcome None,
      record { network = new; walker = w.walker; begun = w.begun },
      (
        never_refused tables w event,
        (step, (λ k walker message is. none k (let h = can.walkers.numbered k walker is in omega arith) walker message is), refl, refl),
      ),
    )
    | inl (k, small, (walker, message, is, meant)) ↦
        let lawful = can.walkers.lawful k walker is in
        let t = takes_something walker.walk message lawful.outstanding in
        let back = given_back walker t.result t.answers in
        let next : WalkerValue = record walker { walk = t.new; ids = back.0; ended = ended_after walker.ended t.result } in (
          Happened outcome (Some (record { number = k; result = t.result })),
          record { network = new; walker = with_walker w.walker k next; begun = w.begun },
          (
            never_refused tables w event,
            (
              step,
              record {
                walker = walker;
                message = message;
                walk = t.new;
                ids = back.0;
                there = is;
                meant = meant;
                takes = t.takes;
                memory = t.memory;
                given_back = back.1;
                is = refl;
              },
              refl,
            ),
          ),
        )
  ]
    where
      given_back : (walker : WalkerValue) (result : Result WalkStep WalkFault) → MatchResult result (λ step. (id : ℕ) × (walker.walk.waiting ≡ Some id)) (λ fault. Unit {0})
          → (ids : IdSet) × MatchResult result (λ step. (id : ℕ) × (walker.walk.waiting ≡ Some id) × TakesBack walker.ids id ids) (λ fault. ids ≡ walker.ids)
      given_back walker (Ok step) (id, waiting) =
          (record { out = λ i. not (nat_eq i id) && walker.ids.out i; last = walker.ids.last }, (id, waiting, record { out = λ i. refl; last = refl }))
      given_back walker (Err fault) told = (walker.ids, refl)

  pub walked_some_step : (event : WalkedEvent) → WalkedGoesOn tables w event
  walked_some_step event = elim (first_or_none tables.plan w event (walk_refused_or_not tables w can event)) [
    | inl (why, first) ↦ (WalkRefused why, w, (first, refl))
    | inr may ↦ happens event may
  ]
    where
      happens : (event : WalkedEvent) → ((why : WalkRefusal) → ¬ IsWalkRefused tables.plan w event why) → WalkedGoesOn tables w event
      happens (Happening event) may =
          let (outcome, new, step) = some_step tables w.network event can.termini in
          happens_to_walkers event outcome new step
      happens (BeginWalk node eid tag count) may = (
        Begun (w.begun + 1),
        record { network = w.network; walker = with_walker w.walker (w.begun + 1) (fresh_walker node eid tag count); begun = w.begun + 1 },
        (may, (refl, refl)),
      )
      happens (Ask k) may = there (w.walker k) refl
        where
          there : (o : Option WalkerValue) → w.walker k ≡ o → WalkedGoesOn tables w (Ask k)
          there None none = absurd (may N11 none)
          there (Some walker) is =
              let (new, next, flight, asking) = asks k walker is may in (
                Asked k flight,
                record { network = new; walker = with_walker w.walker k next; begun = w.begun },
                (may, (refl, walker, next, is, asking, refl, refl)),
              )
      happens (TellWalk k) may = there (w.walker k) refl
        where
          there : (o : Option WalkerValue) → w.walker k ≡ o → WalkedGoesOn tables w (TellWalk k)
          there None none = absurd (may N11 none)
          there (Some walker) is = (ToldWalk k (length walker.walk.records) (standing_of walker), w, (may, (refl, walker, is, refl, refl, refl)))

pub walks_never_get_stuck : (tables : Tables) (w : WalkedState) (event : WalkedEvent) → CanGoOn tables.plan w → WalkedGoesOn tables w event
walks_never_get_stuck tables w event can = walked_some_step tables w can event
