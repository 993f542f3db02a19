-- What the rules say of an owned node of an accepted plan.
use Rattle.std.{proofs.Common.{◌≡◌, ℕ, ◌<◌, List, [], ◌∷◌, Bool, true, false, cond, find, Option, Some, None, option_map, unwrap_or, refl, sym, ap, ◌∙◌, arith, true≢false}, specs.Prelude.{◌==◌, ◌||◌, IsTrue}, specs.Option.{option_and_then}, specs.List.{list_any}, proofs.lemmas.Bool.{eqb-true}}
use Rattle.plan_values.{specs.declared.plan.Plan.{Plan}, specs.declared.certificate.Certificate.{Certificate}, specs.declared.nodes.Node.{Node}, specs.declared.nodes.Pool.{Pool}, specs.declared.nodes.Port.{Port}}
use Rattle.mctp_control.specs.Ranges.{IsAssignableRange}
use Rattle.net_tables.{specs.Routing.{node_at, Holds}, specs.Ownership.{owner_of, pool_of}, specs.Names.{device_kind}}
use Rattle.net_rules.{specs.Owners.{ShareBus, HasBridgeAsOwner}, specs.Pools.{IsPoolInRange, IsLawfulPool, HasLawfulPool}, specs.Rules.{Accepts}, specs.declared.rule.Rule.TheVariants.{C02, C07, C09}}
use Rattle.net_sim.{specs.Assignments.{is_on_bus, shared_bus, requests_by, requests_of, requests_to, requests_over}, specs.AssignmentRuns.{planned_size}, proofs.AssignOne.{IsGiven}}
use Rattle.plan_values.specs.declared.nodes.Kind.TheVariants as kind
use Rattle.mctp_transport.specs.declared.device_kind.DeviceKind.TheVariants as device

-- where one of the ports passes, a first one does
found_first : (test : ℕ → Bool) (ports : List Port) (bus : ℕ) → IsTrue (test bus) → IsTrue (list_any (λ port. port.bus == bus) ports)
    → (b : ℕ) × (option_map (λ (port : Port). port.bus) (find (λ (port : Port). test port.bus) ports) ≡ Some b)
found_first test [] bus passes some = absurd (true≢false (sym some))
found_first test (port ∷ ports) bus passes some = by (found_first test ports bus passes) (test port.bus) refl (port.bus == bus) refl
  where
    by : (IsTrue (list_any (λ p. p.bus == bus) ports) → (b : ℕ) × (option_map (λ (p : Port). p.bus) (find (λ (p : Port). test p.bus) ports) ≡ Some b))
        → (here : Bool) → test port.bus ≡ here → (same : Bool) → (port.bus == bus) ≡ same
        → (b : ℕ) × (option_map (λ (p : Port). p.bus) (find (λ (p : Port). test p.bus) (port ∷ ports)) ≡ Some b)
    by rest true is same same_is =
        (port.bus, ap (λ (t : Bool). option_map (λ (p : Port). p.bus) (cond t (Some port) (find (λ (p : Port). test p.bus) ports))) is)
    by rest false is true same_is = absurd (true≢false (sym passes ∙ sym (ap test (eqb-true port.bus bus same_is)) ∙ is))
    by rest false is false same_is =
        let found = rest (ap (λ (t : Bool). t || list_any (λ (p : Port). p.bus == bus) ports) (sym same_is) ∙ some) in
        (found.0, ap (λ (t : Bool). option_map (λ (p : Port). p.bus) (cond t (Some port) (find (λ (p : Port). test p.bus) ports))) is ∙ found.1)

module _ (plan : Plan) (cert : Certificate) (accepts : Accepts plan cert) (n : ℕ) (node : Node) (stands : node_at plan n ≡ Some node) where
  pub holds : Holds plan n node.eid.value
  holds = ap (option_map (λ (m : Node). m.eid.value)) stands

  pub pool_is : pool_of plan n ≡ node.pool
  pool_is = ap (option_and_then (λ (m : Node). m.pool)) stands

  pub owner_is : owner_of plan n ≡ node.owner
  owner_is = ap (option_and_then (λ (m : Node). m.owner)) stands

  -- it is asked over a bus
  pub asked_over : (owner : ℕ) → node.owner ≡ Some owner → (bus : ℕ) × (requests_to plan n ≡ requests_over n node bus)
  unfolding HasBridgeAsOwner ShareBus
  asked_over owner owned =
      let shared = ((accepts C07 n None None).0 owner (owner_is ∙ owned)).1 in
      let first = found_first (is_on_bus plan owner) node.ports.items shared.0 shared.2
      (ap (λ (m : Option Node). list_any (λ (port : Port). port.bus == shared.0) (unwrap_or (option_map (λ (k : Node). k.ports.items) m) [])) (sym stands) ∙ shared.1) in
      (first.0, ap (requests_of plan n) stands ∙ ap (requests_by n node) (ap (option_and_then (shared_bus plan node)) owned ∙ first.1))

  pool_given : (pool : Pool) → node.pool ≡ Some pool → (device_kind node.kind ≡ device.Bridge) × IsAssignableRange pool.first.value pool.size
  unfolding HasLawfulPool IsLawfulPool IsPoolInRange
  pool_given pool has =
      let lawful = (accepts C09 n None None).0 pool (pool_is ∙ has) in
      let bridge : Some node.kind ≡ Some kind.Bridge = ap (option_map (λ (m : Node). m.kind)) (sym stands) ∙ lawful.0 in
      let same : node.kind ≡ kind.Bridge = cc in
      let some = lawful.1.0 in
      (ap device_kind same, (omega arith, lawful.1.1, lawful.1.2))

  few_of : (pool : Option Pool) → node.pool ≡ pool → planned_size pool < 256
  few_of None is = omega arith
  few_of (Some pool) is = let range = (pool_given pool is).1.2 in omega arith

  pub given : IsGiven (device_kind node.kind) node.eid.value (planned_size node.pool) node.pool
  given = record {
    assignable = (accepts C02 n None (Some node.eid.value)).0 holds;
    few = few_of node.pool refl;
    range = pool_given;
  }
