-- A walk can begin, and its first request can be put in.
use Rattle.std.{proofs.Common.{◌≡◌, ◌≢◌, ◌⊎◌, ℕ, ◌<◌, ◌≤◌, length, Bool, true, false, List, [], ◌∷◌, Option, Some, None, refl, sym, ap, ◌∙◌, subst, inl, inr, arith}, specs.Prelude.{All, option_map, ◌==◌, ◌||◌, if◌then◌else◌}, proofs.lemmas.Option.{same_Some}, proofs.lemmas.List.Elements.{All-nil}}
use Rattle.mctp_transport.{specs.PacketValues.{PacketValue, KeyValue, IsPacketValue, packet_value_bytes}, specs.Cutting.{ArePacketsOf}, proofs.Sending.{few_packets, many_packets}}
use Rattle.pldm_message.{specs.InstanceIds.{IdSet}, specs.Pdrs.{get_pdr_request_bytes}}
use Rattle.pdr_repository.{specs.Walks.{first_part}, specs.Walkers.{WalkState, asked_under}}
use Rattle.plan_values.{specs.declared.plan.Plan.{Plan}, specs.declared.certificate.Certificate.{Certificate}, specs.declared.terminus.PlannedTerminus.{PlannedTerminus}}
use Rattle.net_runs.{proofs.Units.{least_unit, part_fits}, specs.Termini.{TerminusState, WaitingMessage}, specs.States.{NetworkState, at_start, with_packet, unit_of}, specs.Events.{EventValue, Put, Switch, Switched, Refusal, N01, N02, N03, N04, N05, N06, N07, IsRefused}, specs.ExactMessages.{IsSettled}, specs.Walkers.{WalkerValue, WalkedState, Happening, Happened, BeginWalk, Ask, Begun, Asked, WalkRefusal, Also, N08, N09, N10, N11, N12, N13, walked_at_start, fresh_walker, no_ids, five_packets, with_walker, asking_key, answering_key, IsWalkRefused, AreSettled}, specs.WalkedRuns.{IsAsking, WalkedTurn, WalkedStep}, specs.NetworkWalks.{CanAsk, CanSwitchAndAsk}, proofs.Sends.{start_is_quiet}, proofs.Sent.{message_packets, sendable}}
use Rattle.net_tables.{specs.TwoPlans.{Tables, moving}, specs.Routing.{Holds}, specs.Repositories.{terminus_of, records_by_place}}

-- at the start a terminus waits for nothing, and is there where one is planned
pub at_rest : (plan : Plan) (cert : Certificate) (n : ℕ) (t : TerminusState) (o : Option PlannedTerminus)
    → option_map (λ (x : PlannedTerminus). record { tid = x.tid; records = records_by_place plan cert n; waiting = [] }) o ≡ Some t → t.waiting ≡ []
at_rest plan cert n t None e = absurd (cc)
at_rest plan cert n t (Some x) e =
    ap (λ (s : TerminusState). s.waiting) (sym (same_Some (record { tid = x.tid; records = records_by_place plan cert n; waiting = [] }) t e))

is_there : (plan : Plan) (cert : Certificate) (n : ℕ) (o : Option PlannedTerminus) → o ≢ None
    → ¬ (option_map {U = TerminusState} (λ (x : PlannedTerminus). record { tid = x.tid; records = records_by_place plan cert n; waiting = [] }) o ≡ None)
is_there plan cert n None some e = some refl
is_there plan cert n (Some x) some e = cc

-- the start, but that some nodes have switched
abbrev switched_at_start : Plan → Certificate → (ℕ → Bool) → NetworkState
switched_at_start plan cert switched = record (at_start plan cert) { switched = switched }

start_is_settled : (plan : Plan) (cert : Certificate) (switched : ℕ → Bool) (key : KeyValue) (d : ℕ) → IsSettled plan (switched_at_start plan cert switched) key d
start_is_settled plan cert switched key d = record {
  quiet = record { no_flight = (start_is_quiet plan cert key d).no_flight; not_open = (start_is_quiet plan cert key d).not_open };
  none_waits = λ n t holds stands.
      let A : List WaitingMessage → Type 0 = λ ms. All (λ message. message.key ≢ key) ms in
      subst A (sym (at_rest plan cert n t (terminus_of plan n) stands)) (All-nil (λ message. message.key ≢ key));
}

module _ (tables : Tables) (cert : Certificate) (switched : ℕ → Bool) (node own eid tag count n : ℕ) (within : node < length tables.plan.nodes.items) (there : n < length tables.plan.nodes.items)
    (home : Holds tables.plan node own) (holds : Holds tables.plan n eid) (has : terminus_of tables.plan n ≢ None) (small_own : own < 256) (small : eid < 256) (few_tag : tag < 8) (least : 8 ≤ count)
    (most : count ≤ five_packets (unit_of tables.plan)) where
  abbrev first : WalkerValue
  first = fresh_walker node eid tag count

  abbrev key : KeyValue
  key = record { source = own; tag = tag; owner = true }

  abbrev request : List ℕ
  request = get_pdr_request_bytes (asked_under 0 (first_part count 0))

  abbrev begun_at : WalkedState
  begun_at = record { network = switched_at_start tables.plan cert switched; walker = with_walker (λ _. None) 1 first; begun = 1 }

  pub may_begin : (why : WalkRefusal) → ¬ IsWalkRefused tables.plan (walked_at_start tables.plan cert) (BeginWalk node eid tag count) why
  may_begin (Also N01) refused = omega (arith, within, refused)
  may_begin (Also N02) refused = refused
  may_begin (Also N03) refused = refused
  may_begin (Also N04) refused = refused
  may_begin (Also N05) refused = refused
  may_begin (Also N06) refused = refused
  may_begin (Also N07) refused = refused
  may_begin N08 (k, x, there, node_is, eid_is, tag_is) = cc
  may_begin N09 refused = is_there tables.plan cert n (terminus_of tables.plan n) has (refused n holds)
  may_begin N10 (inl less) = omega (arith, least, less)
  may_begin N10 (inr more) = omega (arith, most, more)
  may_begin N11 refused = refused
  may_begin N12 refused = refused
  may_begin N13 refused = refused

  settled : AreSettled tables.plan (switched_at_start tables.plan cert switched) own first
  settled = (start_is_settled tables.plan cert switched (asking_key own first) eid, start_is_settled tables.plan cert switched (answering_key first) own)

  may_ask : (why : WalkRefusal) → ¬ IsWalkRefused tables.plan begun_at (Ask 1) why
  may_ask (Also N01) refused = refused
  may_ask (Also N02) refused = refused
  may_ask (Also N03) refused = refused
  may_ask (Also N04) refused = refused
  may_ask (Also N05) refused = refused
  may_ask (Also N06) refused = omega arith
  may_ask (Also N07) refused = refused
  may_ask N08 refused = refused
  may_ask N09 refused = refused
  may_ask N10 refused = refused
  may_ask N11 refused = let e : Some first ≡ None = refused in cc
  may_ask N12 refused = refused.2 own home settled
  may_ask N13 (inl failed) = let e : false ≡ true = failed in cc
  may_ask N13 (inr done) = let e : Some (first_part count 0) ≡ None = done in cc

  abbrev ids : IdSet
  ids = record { out = λ i. i == 0 || no_ids.out i; last = Some 0 }

  abbrev asked : WalkState
  asked = record first.walk { waiting = Some 0 }

  may_put : (p : PacketValue) → IsPacketValue (unit_of tables.plan) p → (why : Refusal) → ¬ IsRefused tables (switched_at_start tables.plan cert switched) (Put node (packet_value_bytes p)) why
  may_put p lawful N01 refused = omega (arith, within, refused)
  may_put p lawful N02 refused = refused p (lawful, refl)
  may_put p lawful N03 refused = refused
  may_put p lawful N04 refused = refused
  may_put p lawful N05 refused = refused
  may_put p lawful N06 refused = omega arith
  may_put p lawful N07 refused = refused

  asking : (p : PacketValue) → ArePacketsOf (unit_of tables.plan) request eid key 0 (p ∷ []) → IsPacketValue (unit_of tables.plan) p
      → IsAsking tables (switched_at_start tables.plan cert switched) first 1 (with_packet (switched_at_start tables.plan cert switched) node p) (record first { walk = asked; ids = ids })
  asking p are lawful = record {
    own = own;
    id = 0;
    request = request;
    packet = p;
    bytes = packet_value_bytes p;
    walk = asked;
    ids = ids;
    holds = home;
    under = inr (
      refl,
      settled,
      record {
        next = record { free = (omega arith, refl); first = λ other free. omega arith };
        out = λ i. refl;
        last = refl;
      },
    );
    asks = inr (
      not_over,
      (
        first_part count 0,
        refl,
        record { handle = omega arith; transfer = omega arith; operation = omega arith; count = omega (arith, part_fits tables.plan count most); change = omega arith },
        refl,
        refl,
      ),
    );
    cut = are;
    spelled = (lawful, refl);
    put = (may_put p lawful, (p, (lawful, refl), refl, refl, refl));
    is = refl;
  }
    where
      not_over : ¬ ((first.walk.failed ≡ true) ⊎ (first.walk.due ≡ None))
      not_over (inl failed) = let e : false ≡ true = failed in cc
      not_over (inr done) = let e : Some (first_part count 0) ≡ None = done in cc

  -- the walker that has begun asks
  asks : (three : WalkedTurn) × WalkedStep tables begun_at three.event three.outcome three.after × (three.event ≡ Ask 1) × (three.outcome ≡ Asked 1 1)
  asks = by (message_packets tables.plan request eid key)
    where
      by : (ps : List PacketValue) × ArePacketsOf (unit_of tables.plan) request eid key 0 ps
          → (three : WalkedTurn) × WalkedStep tables begun_at three.event three.outcome three.after × (three.event ≡ Ask 1) × (three.outcome ≡ Asked 1 1)
      by ([], are) = absurd (omega (arith, many_packets (unit_of tables.plan) request eid key 0 [] are))
      by (p ∷ q ∷ ps, are) = absurd (omega (arith, few_packets (unit_of tables.plan) 1 request eid key 0 (p ∷ q ∷ ps) are (omega (arith, least_unit tables.plan))))
      by (p ∷ [], are) =
          let lawful = (sendable tables.plan n eid key request there holds small (small_own, few_tag) (p ∷ []) are).0.lawful in
          let after_it : WalkerValue = record first { walk = asked; ids = ids } in
          let then_ : WalkedState = record { network = with_packet (switched_at_start tables.plan cert switched) node p; walker = with_walker begun_at.walker 1 after_it; begun = 1 } in
          (record { event = Ask 1; outcome = Asked 1 1; after = then_ }, (may_ask, (refl, first, after_it, refl, asking p are lawful, refl, refl)), refl, refl)

pub can_ask : (tables : Tables) (cert : Certificate) → CanAsk tables cert
can_ask tables cert node own eid tag count n within there home holds has small_own small few_tag least most =
    let unswitched : ℕ → Bool = λ _. false in
    let w = begun_at tables cert unswitched node own eid tag count n within there home holds has small_own small few_tag least most in
    let (two, step, event, outcome) = asks tables cert unswitched node own eid tag count n within there home holds has small_own small few_tag least most in (
      record { event = BeginWalk node eid tag count; outcome = Begun 1; after = w },
      two,
      ((may_begin tables cert unswitched node own eid tag count n within there home holds has small_own small few_tag least most, (refl, refl)), (step, tt)),
      refl,
      refl,
      event,
      outcome,
    )

-- nothing hinders the first switch
may_switch : (before after : Plan) (cert : Certificate) (w : NetworkState) (node : ℕ) → node < length before.nodes.items → w.switched node ≡ false → (why : Refusal)
    → ¬ IsRefused (moving before after) w (Switch node) why
may_switch before after cert w node within none N01 refused = omega (arith, within, refused)
may_switch before after cert w node within none N02 refused = refused
may_switch before after cert w node within none N03 refused = refused
may_switch before after cert w node within none N04 refused = refused
may_switch before after cert w node within none N05 refused = refused
may_switch before after cert w node within none N06 refused = omega (arith, refused)
may_switch before after cert w node within none N07 (inl one) = let e : Some after ≡ None = one in cc
may_switch before after cert w node within none N07 (inr has) = let e : true ≡ false = sym has ∙ none in cc

-- what happens to the network is refused there alone
pub never_refused : (tables : Tables) (w : WalkedState) (event : EventValue) (why : WalkRefusal) → ¬ IsWalkRefused tables.plan w (Happening event) why
never_refused tables w event (Also why) refused = refused
never_refused tables w event N08 refused = refused
never_refused tables w event N09 refused = refused
never_refused tables w event N10 refused = refused
never_refused tables w event N11 refused = refused
never_refused tables w event N12 refused = refused
never_refused tables w event N13 refused = refused

pub can_switch_and_ask : (before after : Plan) (cert : Certificate) → CanSwitchAndAsk before after cert
can_switch_and_ask before after cert at node own eid tag count n inside within there home holds has small_own small few_tag least most =
    let tables : Tables = moving before after in
    let unswitched : ℕ → Bool = λ _. false in
    let switched : ℕ → Bool = λ m. if m == at then true else false in
    let w = begun_at tables cert unswitched node own eid tag count n within there home holds has small_own small few_tag least most in
    let v = begun_at tables cert switched node own eid tag count n within there home holds has small_own small few_tag least most in
    let (three, step, event, outcome) = asks tables cert switched node own eid tag count n within there home holds has small_own small few_tag least most in (
      record { event = BeginWalk node eid tag count; outcome = Begun 1; after = w },
      record { event = Happening (Switch at); outcome = Happened (Switched at) None; after = v },
      three,
      (
        (may_begin tables cert unswitched node own eid tag count n within there home holds has small_own small few_tag least most, (refl, refl)),
        (
          (
            never_refused tables w (Switch at),
            ((may_switch before after cert w.network at inside refl, (refl, refl)), (λ k walker message stands (flight, is). absurd (cc)), refl, refl),
          ),
          (step, tt),
        ),
      ),
      (refl, refl),
      (refl, refl),
      event,
      outcome,
    )
