-- Each run of an assignment accepts all and assigns all, and there is one.
use Rattle.std.{proofs.Common.{◌≡◌, ◌≢◌, ◌⊎◌, inl, inr, ℕ, suc, ◌<◌, ◌≤◌, List, [], ◌∷◌, ◌++◌, length, get_or, Option, Some, None, option_map, refl, sym, ap, ◌∙◌, subst, arith}, proofs.lemmas.Bool.{cases_order}, specs.Prelude.{slice_get, AllPairs, Contains, IsSomeAnd}, specs.Option.{option_and_then}, specs.List.{flat_map}, proofs.lemmas.List.{length-map}, proofs.lemmas.Option.{slice_get-map, slice_get_within, slice_get_cases}}
use Rattle.plan_values.{specs.declared.plan.Plan.{Plan}, specs.declared.certificate.Certificate.{Certificate}, specs.declared.nodes.Node.{Node}, specs.declared.nodes.Pool.{Pool}}
use Rattle.mctp_control.{specs.RouteEntries.{EntryValue}, specs.Ranges.{IsWithin}, specs.Devices.{PoolHeld, DeviceValue}}
use Rattle.net_tables.{specs.Routing.{node_at, Holds}, specs.Ownership.{pool_of, IsInPoolOf, owner_of, level}, specs.Names.{device_kind}}
use Rattle.net_rules.{specs.Eids.{IsNewlyHeld}, specs.Rules.{Accepts}, specs.declared.rule.Rule.TheVariants.{C03}}
use Rattle.net_sim.{specs.Assignments.{AssignmentValue, requests_to, requests_over, IsOwned, IsAskedBefore, IsAssignmentOf}, specs.AssignmentRuns.{planned_size, planned_pool, holding, empty, starting, devices_at_start, AssignRun, AreAccepted, HoldsEid, HasInPool, AreAssigned, CanBeCarriedOut, IsAcceptedThroughout, AssignsAll}, proofs.AssignPools.{pool_behind}, proofs.AssignOne.{Changed, after_asked, start_asked}, proofs.AssignGiven.{owner_is, asked_over, given, holds, pool_is}, proofs.AssignLaw.{first, in_tail, head_or_tail}}

-- each differs from all later ones
abbrev AreApart : List ℕ → Type 0
AreApart [] = Unit {0}
AreApart (n ∷ ns) = ((k : ℕ) → Contains ns k → n ≢ k) × AreApart ns

not_before_itself : (plan : Plan) (cert : Certificate) (n k : ℕ) → n ≡ k → IsAskedBefore plan cert n k → ⊥
unfolding IsAskedBefore
not_before_itself plan cert n k same (inl lower) = let l = ap (level plan cert) same in omega arith
not_before_itself plan cert n k same (inr both) = let b = both.1 in omega arith

apart : (plan : Plan) (cert : Certificate) (nodes : List ℕ) → AllPairs (IsAskedBefore plan cert) nodes → AreApart nodes
apart plan cert [] ordered = tt
apart plan cert (n ∷ ns) ordered = (
  λ k has same. not_before_itself plan cert n (get_or ns has.0 k) (same ∙ sym has.2) (let w = has.1 in ordered 0 (suc has.0) k (omega arith) (omega arith)),
  apart plan cert ns (λ i j d less within. ordered (suc i) (suc j) d (omega arith) (omega arith)),
)

module _ (plan : Plan) (cert : Certificate) (accepts : Accepts plan cert) (tables : ℕ → List EntryValue) where
  -- what an owned node is asked, and where it stands
  record Asked (n : ℕ) : Type 0 where
    pub node : Node
    pub stands : node_at plan n ≡ Some node
    pub bus : ℕ
    pub requests : requests_to plan n ≡ requests_over n node bus

  asked_of : (n : ℕ) → IsOwned plan n → Asked n
  unfolding IsOwned
  asked_of n (owner, owns) = by (node_at plan n) refl
    where
      by : (found : Option Node) → node_at plan n ≡ found → Asked n
      by None is = let none : owner_of plan n ≡ None = ap (option_and_then (λ (m : Node). m.owner)) is in cc
      by (Some node) is =
          let over = asked_over plan cert accepts n node is owner (sym (owner_is plan cert accepts n node is) ∙ owns) in
          record { node = node; stands = is; bus = over.0; requests = over.1 }

  -- the nodes of a list are owned and hold nothing yet
  abbrev Waits : List DeviceValue → List ℕ → Type 0
  Waits before nodes = (n : ℕ) → Contains nodes n → IsOwned plan n × ((node : Node) → node_at plan n ≡ Some node → slice_get before n ≡ Some (empty node))

  -- those after the first still wait once it is done
  waits_on : (n : ℕ) (ns : List ℕ) (before between : List DeviceValue) (new : DeviceValue) → AreApart (n ∷ ns) → Waits before (n ∷ ns)
      → Changed before between n new → Waits between ns
  waits_on n ns before between new differ waits changed k has =
      ((waits k (in_tail n ns k has)).0, λ node stands. changed.there k (differ.0 k has) ∙ (waits k (in_tail n ns k has)).1 node stands)

  -- what is so once the nodes were asked: each holds what is planned, all others are as before, and all was accepted
  record Ends (nodes : List ℕ) (before after : List DeviceValue) (list : List AssignmentValue) (replies : List (Option (List ℕ))) : Type 0 where
    pub as_many : length after ≡ length before
    pub done : (n : ℕ) → Contains nodes n → (node : Node) → node_at plan n ≡ Some node → (bus : ℕ) × (slice_get after n ≡ Some (holding node (Some bus)))
    pub same : (k : ℕ) → ((n : ℕ) → Contains nodes n → n ≢ k) → slice_get after k ≡ slice_get before k
    pub accepted : AreAccepted list replies

  done_here : (n bus : ℕ) (node : Node) (after : List DeviceValue) → node_at plan n ≡ Some node → slice_get after n ≡ Some (holding node (Some bus))
      → (other : Node) → node_at plan n ≡ Some other → (b : ℕ) × (slice_get after n ≡ Some (holding other (Some b)))
  done_here n bus node after stands holds_it other is =
      let e : node ≡ other = cc in
      (bus, subst (λ (m : Node). slice_get after n ≡ Some (holding m (Some bus))) e holds_it)

  ends : (nodes : List ℕ) → AreApart nodes → (before : List DeviceValue) → Waits before nodes → (replies : List (Option (List ℕ))) (after : List DeviceValue)
      → AssignRun tables before (flat_map (requests_to plan) nodes) replies after → Ends nodes before after (flat_map (requests_to plan) nodes) replies
  ends [] differ before waits [] after run = record {
    as_many = ap (λ (l : List DeviceValue). length l) run;
    done = λ n has. let within = has.1 in absurd (omega arith);
    same = λ k others. ap (λ (l : List DeviceValue). slice_get l k) run;
    accepted = tt;
  }
  ends [] differ before waits (reply ∷ replies) after run = absurd run
  ends (n ∷ ns) differ before waits replies after run =
      let a = asked_of n (waits n (first n ns)).0 in
      let tail = flat_map (requests_to plan) ns in
      let here = (waits n (first n ns)).1 a.node a.stands in
      let r = after_asked tables n a.bus (device_kind a.node.kind) a.node.eid.value (planned_size a.node.pool) a.node.pool (given plan cert accepts n a.node a.stands)
      before tail replies after here (subst (λ (l : List AssignmentValue). AssignRun tables before (l ++ tail) replies after) a.requests run) in
      let rest = ends ns differ.1 r.between (waits_on n ns before r.between (holding a.node (Some a.bus)) differ waits r.changed) r.others after r.run in
      let kept = rest.same n (λ m has same. differ.0 m has (sym same)) in
      record {
        as_many = rest.as_many ∙ r.changed.as_many;
        done = λ k has. elim (head_or_tail n ns k has) [
          | inl same ↦ subst (λ (j : ℕ). (node : Node) → node_at plan j ≡ Some node → (bus : ℕ) × (slice_get after j ≡ Some (holding node (Some bus)))) same
              (done_here n a.bus a.node after a.stands (kept ∙ r.changed.here))
          | inr later ↦ rest.done k later
        ];
        same = λ k others. rest.same k (λ m has. others m (in_tail n ns m has)) ∙ r.changed.there k (others n (first n ns));
        accepted = subst (λ (l : List AssignmentValue). AreAccepted (l ++ tail) replies) (sym a.requests) (r.accepted rest.accepted);
      }

  -- the nodes of a list can be asked
  runs : (nodes : List ℕ) → AreApart nodes → (before : List DeviceValue) → Waits before nodes
      → (replies : List (Option (List ℕ))) × (after : List DeviceValue) × AssignRun tables before (flat_map (requests_to plan) nodes) replies after
  runs [] differ before waits = ([], before, refl)
  runs (n ∷ ns) differ before waits =
      let a = asked_of n (waits n (first n ns)).0 in
      let tail = flat_map (requests_to plan) ns in
      let here = (waits n (first n ns)).1 a.node a.stands in
      let s = start_asked tables n a.bus (device_kind a.node.kind) a.node.eid.value (planned_size a.node.pool) a.node.pool (given plan cert accepts n a.node a.stands) before here in
      let rest = runs ns differ.1 s.between (waits_on n ns before s.between (holding a.node (Some a.bus)) differ waits s.changed) in (
        s.replies ++ rest.0,
        rest.1,
        subst (λ (l : List AssignmentValue). AssignRun tables before (l ++ tail) (s.replies ++ rest.0) rest.1) (sym a.requests) (s.run tail rest.0 rest.1 rest.2),
      )

  -- the device of a node before the first request
  start_is : (n : ℕ) (node : Node) (owner : Option ℕ) → node_at plan n ≡ Some node → node.owner ≡ owner → slice_get (devices_at_start plan) n ≡ Some (starting node owner)
  start_is n node owner stands is =
      slice_get-map (λ (m : Node). starting m m.owner) plan.nodes.items n ∙ ap (option_map (λ (m : Node). starting m m.owner)) stands ∙ ap (λ (o : Option ℕ). Some (starting node o)) is

  waits_at_start : (nodes : List ℕ) → ((n : ℕ) → Contains nodes n → IsOwned plan n) → Waits (devices_at_start plan) nodes
  unfolding IsOwned
  waits_at_start nodes all_owned n has =
      let o = all_owned n has in
      (o, λ node stands. start_is n node (Some o.0) stands (sym (owner_is plan cert accepts n node stands) ∙ o.1))

  module _ (list : List AssignmentValue) (asks : IsAssignmentOf plan cert list) where
    different : AreApart asks.nodes
    different = apart plan cert asks.nodes asks.ordered

    waiting : Waits (devices_at_start plan) asks.nodes
    waiting = waits_at_start asks.nodes (λ n has. (asks.each n).0 has)

    pub there_is_one : (replies : List (Option (List ℕ))) × (after : List DeviceValue) × AssignRun tables (devices_at_start plan) list replies after
    there_is_one =
        let run = runs asks.nodes different (devices_at_start plan) waiting in
        (run.0, run.1, subst (λ (l : List AssignmentValue). AssignRun tables (devices_at_start plan) l run.0 run.1) (sym asks.requests) run.2)

    module _ (replies : List (Option (List ℕ))) (after : List DeviceValue) (run : AssignRun tables (devices_at_start plan) list replies after) where
      ended : Ends asks.nodes (devices_at_start plan) after (flat_map (requests_to plan) asks.nodes) replies
      ended = ends asks.nodes different (devices_at_start plan) waiting replies after
          (subst (λ (l : List AssignmentValue). AssignRun tables (devices_at_start plan) l replies after) asks.requests run)

      pub all_accepted : AreAccepted list replies
      all_accepted = subst (λ (l : List AssignmentValue). AreAccepted l replies) (sym asks.requests) ended.accepted

      final_by : (n : ℕ) (node : Node) (owner : Option ℕ) → node_at plan n ≡ Some node → node.owner ≡ owner → (giver : Option ℕ) × (slice_get after n ≡ Some (holding node giver))
      unfolding IsOwned
      final_by n node None stands is = (
        None,
        ended.same n (λ m has same. let o = (asks.each m).0 has in
            let none : owner_of plan m ≡ None = ap (owner_of plan) same ∙ owner_is plan cert accepts n node stands ∙ is in
            let some : owner_of plan m ≡ Some o.0 = o.1 in cc) ∙ start_is n node None stands is,
      )
      final_by n node (Some owner) stands is =
          let d = ended.done n ((asks.each n).1 (owner, owner_is plan cert accepts n node stands ∙ is)) node stands in (Some d.0, d.1)

      -- what a device is afterwards
      record Known (n : ℕ) (d : DeviceValue) : Type 0 where
        pub node : Node
        pub stands : node_at plan n ≡ Some node
        pub giver : Option ℕ
        pub is : d ≡ holding node giver

      none_lost : length after ≡ length plan.nodes.items
      none_lost = ended.as_many ∙ length-map plan.nodes.items (λ (m : Node). starting m m.owner)

      known : (n : ℕ) (d : DeviceValue) → slice_get after n ≡ Some d → Known n d
      known n d at = by (slice_get_cases plan.nodes.items n).1
        where
          by : ((x : Node) × (n < length plan.nodes.items) × (slice_get plan.nodes.items n ≡ Some x) × (get_or plan.nodes.items n x ≡ x))
              ⊎ ((length plan.nodes.items ≤ n) × (slice_get plan.nodes.items n ≡ None)) → Known n d
          by (inl (node, within, stands, read)) =
              let f = final_by n node node.owner stands refl in
              let e = f.1 in
              let same : d ≡ holding node f.0 = cc in
              record { node = node; stands = stands; giver = f.0; is = same }
          by (inr (past, none)) = let within = slice_get_within after n d at in let many = none_lost in absurd (omega arith)

      -- a device's EID is that of its node
      known_holds : (n e : ℕ) (d : DeviceValue) → slice_get after n ≡ Some d → HoldsEid d e → Holds plan n e
      known_holds n e d at has =
          let k = known n d at in
          holds plan cert accepts n k.node k.stands ∙ subst (λ (c : DeviceValue). HoldsEid c e) k.is has

      earlier_apart : (m n e : ℕ) → m < n → Holds plan m e → Holds plan n e → ⊥
      unfolding IsNewlyHeld
      earlier_apart m n e earlier here there = (accepts C03 n None (Some e)).0 there m earlier here

      one_holder : (m n e : ℕ) → Holds plan m e → Holds plan n e → m ≡ n
      one_holder m n e here there =
          elim (cases_order m n) [
            | inl same ↦ same
            | inr (inl earlier) ↦ absurd (earlier_apart m n e earlier here there)
            | inr (inr later) ↦ absurd (earlier_apart n m e later there here)
          ]

      pool_planned : (pool : Option Pool) (giver : Option ℕ) → option_map {U = ℕ × ℕ} (λ held. (held.first, held.size)) (planned_pool pool giver)
          ≡ option_map {U = ℕ × ℕ} (λ p. (p.first.value, p.size)) pool
      pool_planned None giver = refl
      pool_planned (Some pool) giver = refl

      to_pool : (b e : ℕ) (pool : Option Pool) (giver : Option ℕ) → pool_of plan b ≡ pool → IsSomeAnd (planned_pool pool giver) (λ (held : PoolHeld). IsWithin held.first held.size e) → IsInPoolOf plan b e
      unfolding IsInPoolOf
      to_pool b e None giver is lies = absurd lies
      to_pool b e (Some pool) giver is lies = (pool, is, lies)

      from_pool : (b e : ℕ) (pool : Option Pool) (giver : Option ℕ) → pool_of plan b ≡ pool → IsInPoolOf plan b e → IsSomeAnd (planned_pool pool giver) (λ (held : PoolHeld). IsWithin held.first held.size e)
      unfolding IsInPoolOf
      from_pool b e None giver is (p, has, lies) = let n : Some p ≡ None = sym has ∙ is in cc
      from_pool b e (Some pool) giver is (p, has, lies) =
          let s : Some p ≡ Some pool = sym has ∙ is in
          let same : p ≡ pool = cc in
          subst (λ (q : Pool). IsWithin q.first.value q.size e) same lies

      pub all_assigned : AreAssigned plan after
      all_assigned = record {
        planned = λ n node stands. let f = final_by n node node.owner stands refl in
            (holding node f.0, f.1, record { eid = refl; pool = pool_planned node.pool f.0 });
        as_many = none_lost;
        distinct = λ m n e c d at_m at_n has_c has_d. one_holder m n e (known_holds m e c at_m has_c) (known_holds n e d at_n has_d);
        pools = λ b n e c d at_b at_n has.
            let k = known b c at_b in
            let behind = pool_behind plan cert accepts n b e (known_holds n e d at_n has) in
            let there = pool_is plan cert accepts b k.node k.stands in (
              λ lies. behind.0 (to_pool b e k.node.pool k.giver there (subst (λ (x : DeviceValue). HasInPool x e) k.is lies)),
              λ above. subst (λ (x : DeviceValue). HasInPool x e) (sym k.is) (from_pool b e k.node.pool k.giver there (behind.1 above)),
            );
      }

-- the list of an accepted plan can be carried out, is accepted throughout, and assigns all
pub can_be_carried_out : (plan : Plan) (cert : Certificate) → Accepts plan cert → (list : List AssignmentValue) → IsAssignmentOf plan cert list → CanBeCarriedOut plan list
unfolding CanBeCarriedOut
can_be_carried_out plan cert accepts list asks tables = there_is_one plan cert accepts tables list asks

pub accepted_throughout : (plan : Plan) (cert : Certificate) → Accepts plan cert → (list : List AssignmentValue) → IsAssignmentOf plan cert list → IsAcceptedThroughout plan list
unfolding IsAcceptedThroughout
accepted_throughout plan cert accepts list asks tables replies after run = all_accepted plan cert accepts tables list asks replies after run

pub assigns_all : (plan : Plan) (cert : Certificate) → Accepts plan cert → (list : List AssignmentValue) → IsAssignmentOf plan cert list → AssignsAll plan list
unfolding AssignsAll
assigns_all plan cert accepts list asks tables replies after run = all_assigned plan cert accepts tables list asks replies after run
