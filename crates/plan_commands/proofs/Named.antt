-- Each request of an assignment is to a node of the plan, over a bus of the plan.
use Rattle.std.{proofs.Common.{◌≡◌, ℕ, zero, suc, ◌<◌, List, [], ◌∷◌, length, map, Bool, true, false, ◌&&◌, cond, nat_lt, find, Option, Some, None, option_map, option_and_then, slice_get, refl, sym, ap, ◌∙◌, subst, true≢false}, specs.Prelude.{All}, specs.List.{flat_map, list_all}, proofs.lemmas.Bool.{ltb-true}, proofs.lemmas.Option.{same_Some, none-some, slice_get_within}, proofs.lemmas.List.Elements.{All-nil, All-cons, All-append}}
use Rattle.plan_values.{specs.declared.plan.Plan.{Plan}, specs.declared.certificate.Certificate.{Certificate}, specs.declared.nodes.Node.{Node}, specs.declared.nodes.Pool.{Pool}, specs.declared.nodes.Port.{Port}, specs.NodeValues.{node_value}, specs.Placed.{are_placed, is_placed, is_owner_placed}, proofs.Placed.{list_all_values}}
use Rattle.net_tables.specs.Routing.{node_at}
use Rattle.net_sim.specs.Assignments.{AssignmentValue, IsAssignmentOf, is_on_bus, shared_bus, pool_requests, requests_by, requests_of, requests_to}
use Rattle.plan_commands.specs.Assigning.{IsNamed}

both : (a b : Bool) → (a && b) ≡ true → (a ≡ true) × (b ≡ true)
both true b e = (refl, e)
both false b e = absurd (true≢false (sym e))

passes : {A : Type 0} (p : A → Bool) (xs : List A) (k : ℕ) (x : A) → list_all p xs ≡ true → slice_get xs k ≡ Some x → p x ≡ true
passes p [] k x all is = absurd (none-some x is)
passes p (y ∷ ys) zero x all is = ap p (sym (same_Some y x is)) ∙ (both (p y) (list_all p ys) all).0
passes p (y ∷ ys) (suc k) x all is = passes p ys k x (both (p y) (list_all p ys) all).1 is

-- the bus of a port that is found is one of so many, where each is
found_first : (buses b : ℕ) (port : Port) (rest : Option Port) (test : Bool) → nat_lt port.bus buses ≡ true
    → (option_map (λ (p : Port). p.bus) rest ≡ Some b → b < buses) → option_map (λ (p : Port). p.bus) (cond test (Some port) rest) ≡ Some b → b < buses
found_first buses b port rest true among later is = subst (λ k. k < buses) (same_Some port.bus b is) (ltb-true port.bus buses among)
found_first buses b port rest false among later is = later is

found_bus : (buses : ℕ) (test : Port → Bool) (ports : List Port) (b : ℕ) → list_all (λ (p : Port). nat_lt p.bus buses) ports ≡ true
    → option_map (λ (p : Port). p.bus) (find test ports) ≡ Some b → b < buses
found_bus buses test [] b all is = absurd (none-some b is)
found_bus buses test (port ∷ ports) b all is =
    let parts = both (nat_lt port.bus buses) (list_all (λ (p : Port). nat_lt p.bus buses) ports) all in
    found_first buses b port (find test ports) (test port) parts.0 (found_bus buses test ports b parts.1) is

-- what one node is asked
module _ (plan : Plan) (n : ℕ) where
  module _ (node : Node) (here : node_at plan n ≡ Some node) where
    within : n < length plan.nodes.items
    within = slice_get_within plan.nodes.items n node here

    ports_among : list_all (λ (p : Port). nat_lt p.bus (length plan.buses.items)) node.ports.items ≡ true
    ports_among =
        let buses = length plan.buses.items in
        let count = length plan.nodes.items in
        let all = subst (λ k. are_placed k (map node_value plan.nodes.items) ≡ true) plan.buses.ok.0 plan.placed in
        let placed = passes (is_placed buses count) plan.nodes.items n node (list_all_values buses plan.nodes.items ∙ all) here in
        let rows = list_all (λ r. nat_lt r.next count) node.rows.items in
        let ports = list_all (λ (p : Port). nat_lt p.bus buses) node.ports.items in
        (both ports rows (both (is_owner_placed count node.owner) (ports && rows) placed).1).0

    bus_among : (owner : Option ℕ) (b : ℕ) → option_and_then (shared_bus plan node) owner ≡ Some b → b < length plan.buses.items
    bus_among None b is = absurd (none-some b is)
    bus_among (Some owner) b is = found_bus (length plan.buses.items) (λ port. is_on_bus plan owner port.bus) node.ports.items b ports_among is

    pool_named : (b : ℕ) (pool : Option Pool) → b < length plan.buses.items → All (IsNamed plan) (pool_requests n b pool)
    pool_named b None lt = All-nil (IsNamed plan)
    pool_named b (Some pool) lt = All-cons (IsNamed plan) _ [] (lt, within) (All-nil (IsNamed plan))

    by_named : (bus : Option ℕ) → ((b : ℕ) → bus ≡ Some b → b < length plan.buses.items) → All (IsNamed plan) (requests_by n node bus)
    by_named None among = All-nil (IsNamed plan)
    by_named (Some b) among =
        All-cons (IsNamed plan) _ (pool_requests n b node.pool) (among b refl, within) (pool_named b node.pool (among b refl))

  of_named : (found : Option Node) → node_at plan n ≡ found → All (IsNamed plan) (requests_of plan n found)
  of_named None here = All-nil (IsNamed plan)
  of_named (Some node) here = by_named node here (option_and_then (shared_bus plan node) node.owner) (bus_among node here node.owner)

all_named : (plan : Plan) (nodes : List ℕ) → All (IsNamed plan) (flat_map (requests_to plan) nodes)
all_named plan [] = All-nil (IsNamed plan)
all_named plan (n ∷ nodes) =
    All-append (IsNamed plan) (requests_to plan n) (flat_map (requests_to plan) nodes) (of_named plan n (node_at plan n) refl) (all_named plan nodes)

pub assignment_named : (plan : Plan) (cert : Certificate) (list : List AssignmentValue) → IsAssignmentOf plan cert list → All (IsNamed plan) list
assignment_named plan cert list asks = subst (λ l. All (IsNamed plan) l) (sym asks.requests) (all_named plan asks.nodes)
