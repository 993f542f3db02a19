-- What plans of one value say of their nodes, and certificates of one value give them, is the same.
use Rattle.std.{proofs.Common.{◌≡◌, ℕ, List, [], length, map, Bool, Option, Some, None, refl, sym, ap, ◌∙◌, subst}, specs.Prelude.{slice_get, option_map, option_and_then, unwrap_or, find, nat_le, nat_lt, ◌==◌, ◌&&◌, ◌+◌}, proofs.lemmas.Option.{same_Some, none-some}}
use Rattle.plan_values.{specs.declared.plan.Plan.{Plan}, specs.declared.nodes.Node.{Node}, specs.declared.nodes.Row.{Row}, specs.declared.nodes.Pool.{Pool}, specs.declared.terminus.PlannedTerminus.{PlannedTerminus}, specs.declared.certificate.Certificate.{Certificate}, specs.declared.certificate.NodeLevel.{NodeLevel}, specs.declared.certificate.NodePlaces.{NodePlaces}, specs.declared.certificate.NodeRanks.{NodeRanks}, specs.declared.certificate.RankRange.{RankRange}, specs.PlanValues.{PlanValue, plan_value}, specs.NodeValues.{row_value, pool_value, PortValue, port_value, record_value, TerminusValue, terminus_value, NodeValue, node_value, but_rows}, specs.CertificateValues.{CertificateValue, certificate_value, LevelValue, level_value, PlacesValue, places_value, RangeValue, range_value, NodeRanksValue, node_ranks_value}}
use Rattle.net_tables.{specs.Routing.{node_at, eid_of, rows_of, ports_of, IsBridge, Holds, NamesFor, Routes, HasRow, MovesTo}, specs.Rows.{IsOnBus, bus_of}, specs.Ownership.{owner_of, IsOwnedBy, pool_of, given_level, level}, specs.Ranks.{is_in_range, rank_in, rank}, specs.Repositories.{terminus_of, records_of, places_of}}
use Rattle.net_rules.specs.Names.{name_of}
use Rattle.net_check.{proofs.OneObstacle.{one_eid}, proofs.SeenAlike.{read_alike, then_alike, as_many, at_alike, found_alike, any_alike, one_option, one_list}}

one_row : (a b : Row) → row_value a ≡ row_value b → a ≡ b
one_row a b same = λ i. record { first = one_eid a.first b.first (λ j. (same j).first) i; size = (same i).size; port = (same i).port; next = (same i).next }

one_pool : (a b : Pool) → pool_value a ≡ pool_value b → a ≡ b
one_pool a b same = λ i. record { first = one_eid a.first b.first (λ j. (same j).first) i; size = (same i).size }

-- ---- parts of a node

rows_seen : (o : Option Node) → unwrap_or (option_map (λ (v : NodeValue). v.rows) (option_map node_value o)) [] ≡ map row_value (unwrap_or (option_map (λ (node : Node). node.rows.items) o) [])
rows_seen None = refl
rows_seen (Some node) = refl

ports_seen : (o : Option Node) → unwrap_or (option_map (λ (v : NodeValue). v.ports) (option_map node_value o)) [] ≡ map port_value (unwrap_or (option_map (λ (node : Node). node.ports.items) o) [])
ports_seen None = refl
ports_seen (Some node) = refl

pool_seen : (o : Option Node) → option_and_then (λ (v : NodeValue). v.pool) (option_map node_value o) ≡ option_map pool_value (option_and_then (λ (node : Node). node.pool) o)
pool_seen None = refl
pool_seen (Some node) = refl

terminus_seen : (o : Option Node) → option_and_then (λ (v : NodeValue). v.terminus) (option_map node_value o) ≡ option_map terminus_value (option_and_then (λ (node : Node). node.terminus) o)
terminus_seen None = refl
terminus_seen (Some node) = refl

records_seen : (o : Option PlannedTerminus) → unwrap_or (option_map (λ (v : TerminusValue). v.records) (option_map terminus_value o)) [] ≡ map record_value (unwrap_or (option_map (λ (t : PlannedTerminus). t.records.items) o) [])
records_seen None = refl
records_seen (Some terminus) = refl

-- ---- plans

module _ (plan other : Plan) (same : plan_value plan ≡ plan_value other) where
  pub many : length plan.nodes.items ≡ length other.nodes.items
  many = as_many node_value plan.nodes.items other.nodes.items (ap (λ (v : PlanValue). v.nodes) same)

  nodes : (n : ℕ) → option_map node_value (node_at plan n) ≡ option_map node_value (node_at other n)
  nodes = at_alike node_value plan.nodes.items other.nodes.items (ap (λ (v : PlanValue). v.nodes) same)

  pub nodes_but_rows : (n : ℕ) → option_map but_rows (node_at plan n) ≡ option_map but_rows (node_at other n)
  nodes_but_rows n = read_alike node_value (λ (v : NodeValue). record v { rows = [] }) (node_at plan n) (node_at other n) (nodes n)

  pub names : (n : ℕ) → name_of plan n ≡ name_of other n
  names n = read_alike node_value (λ (v : NodeValue). v.name) (node_at plan n) (node_at other n) (nodes n)

  pub eids : (n : ℕ) → eid_of plan n ≡ eid_of other n
  eids n = read_alike node_value (λ (v : NodeValue). v.eid) (node_at plan n) (node_at other n) (nodes n)

  kinds : (n : ℕ) → option_map (λ (node : Node). node.kind) (node_at plan n) ≡ option_map (λ (node : Node). node.kind) (node_at other n)
  kinds n = read_alike node_value (λ (v : NodeValue). v.kind) (node_at plan n) (node_at other n) (nodes n)

  pub owners : (n : ℕ) → owner_of plan n ≡ owner_of other n
  owners n = then_alike node_value (λ (v : NodeValue). v.owner) (node_at plan n) (node_at other n) (nodes n)

  pub pools : (n : ℕ) → pool_of plan n ≡ pool_of other n
  pools n = one_option pool_value one_pool (pool_of plan n) (pool_of other n)
      (sym (pool_seen (node_at plan n)) ∙ (ap (λ (o : Option NodeValue). option_and_then (λ (v : NodeValue). v.pool) o) (nodes n) ∙ pool_seen (node_at other n)))

  pub rows : (n : ℕ) → rows_of plan n ≡ rows_of other n
  rows n = one_list row_value one_row (rows_of plan n) (rows_of other n)
      (sym (rows_seen (node_at plan n)) ∙ (ap (λ (o : Option NodeValue). unwrap_or (option_map (λ (v : NodeValue). v.rows) o) []) (nodes n) ∙ rows_seen (node_at other n)))

  ports : (n : ℕ) → map port_value (ports_of plan n) ≡ map port_value (ports_of other n)
  ports n = sym (ports_seen (node_at plan n)) ∙ (ap (λ (o : Option NodeValue). unwrap_or (option_map (λ (v : NodeValue). v.ports) o) []) (nodes n) ∙ ports_seen (node_at other n))

  pub termini : (n : ℕ) → option_map terminus_value (terminus_of plan n) ≡ option_map terminus_value (terminus_of other n)
  termini n = sym (terminus_seen (node_at plan n)) ∙ (ap (λ (o : Option NodeValue). option_and_then (λ (v : NodeValue). v.terminus) o) (nodes n) ∙ terminus_seen (node_at other n))

  pub records : (n : ℕ) → map record_value (records_of plan n) ≡ map record_value (records_of other n)
  records n = sym (records_seen (terminus_of plan n)) ∙ (ap (λ (o : Option TerminusValue). unwrap_or (option_map (λ (v : TerminusValue). v.records) o) []) (termini n) ∙ records_seen (terminus_of other n))

  pub on_buses : (n bus : ℕ) → IsOnBus plan n bus → IsOnBus other n bus
  on_buses n bus on = sym (any_alike port_value (λ (v : PortValue). v.bus == bus) (ports_of plan n) (ports_of other n) (ports n)) ∙ on

  pub buses : (n p : ℕ) → bus_of plan n p ≡ bus_of other n p
  buses n p = read_alike port_value (λ (v : PortValue). v.bus) (slice_get (ports_of plan n) p) (slice_get (ports_of other n) p) (at_alike port_value (ports_of plan n) (ports_of other n) (ports n) p)

  pub bridges : (n : ℕ) → IsBridge plan n → IsBridge other n
  bridges n bridge = sym (kinds n) ∙ bridge

  pub held : (n e : ℕ) → Holds plan n e → Holds other n e
  held n e holds = sym (eids n) ∙ holds

  pub owned : (n owner : ℕ) → IsOwnedBy plan n owner → IsOwnedBy other n owner
  owned n owner owns = sym (owners n) ∙ owns

  pub routed : (n e m : ℕ) → Routes plan n e m → Routes other n e m
  routed n e m routes = (let R : List Row → Type 0 = λ table. NamesFor table e m in subst R (rows n) routes)

  pub has_row : (n e : ℕ) → HasRow plan n e → HasRow other n e
  has_row n e has = (has.0, routed n e has.0 has.1)

-- the other way round
pub unheld : (plan other : Plan) → plan_value plan ≡ plan_value other → (n e : ℕ) → ¬ Holds plan n e → ¬ Holds other n e
unheld plan other same n e away holds = away (held other plan (sym same) n e holds)

pub moved : (plan other : Plan) → plan_value plan ≡ plan_value other → (e n m : ℕ) → MovesTo plan e n m → MovesTo other e n m
moved plan other same e n m move = (unheld plan other same n e move.0, routed plan other same n e m move.1)

-- ---- certificates

rank_of_ranges : (o p : Option NodeRanks) (e : ℕ) → option_map node_ranks_value o ≡ option_map node_ranks_value p
    → option_map (λ (given : NodeRanks). rank_in given.ranges.items e) o ≡ option_map (λ (given : NodeRanks). rank_in given.ranges.items e) p
rank_of_ranges None None e same = refl
rank_of_ranges None (Some b) e same = absurd (none-some (node_ranks_value b) same)
rank_of_ranges (Some a) None e same = absurd (none-some (node_ranks_value a) (sym same))
rank_of_ranges (Some a) (Some b) e same =
    let ranges = ap (λ (v : NodeRanksValue). v.ranges) (same_Some (node_ranks_value a) (node_ranks_value b) same) in
    let test : RangeValue → Bool = λ range. nat_le range.first e && nat_lt e (range.first + range.size) in
    let found = found_alike range_value test a.ranges.items b.ranges.items ranges in
    ap (λ (o : Option ℕ). Some (unwrap_or o 0))
    (read_alike range_value (λ (v : RangeValue). v.rank) (find (λ (range : RankRange). is_in_range range e) a.ranges.items) (find (λ (range : RankRange). is_in_range range e) b.ranges.items) found)

module _ (cert other : Certificate) (same : certificate_value cert ≡ certificate_value other) where
  pub levels : (n : ℕ) → given_level cert n ≡ given_level other n
  levels n =
      let found = found_alike level_value (λ (v : LevelValue). v.node == n) cert.levels.items other.levels.items (ap (λ (v : CertificateValue). v.levels) same) in
      ap (λ (o : Option ℕ). unwrap_or o 0)
      (read_alike level_value (λ (v : LevelValue). v.level) (find (λ (given : NodeLevel). given.node == n) cert.levels.items) (find (λ (given : NodeLevel). given.node == n) other.levels.items) found)

  pub places : (n : ℕ) → places_of cert n ≡ places_of other n
  places n =
      let found = found_alike places_value (λ (v : PlacesValue). v.node == n) cert.places.items other.places.items (ap (λ (v : CertificateValue). v.places) same) in
      ap (λ (o : Option (List ℕ)). unwrap_or o [])
      (read_alike places_value (λ (v : PlacesValue). v.places) (find (λ (given : NodePlaces). given.node == n) cert.places.items) (find (λ (given : NodePlaces). given.node == n) other.places.items) found)

  pub ranks : (n e : ℕ) → rank cert n e ≡ rank other n e
  ranks n e =
      let found = found_alike node_ranks_value (λ (v : NodeRanksValue). v.node == n) cert.ranks.items other.ranks.items (ap (λ (v : CertificateValue). v.ranks) same) in
      ap (λ (o : Option ℕ). unwrap_or o 0)
      (rank_of_ranges (find (λ (given : NodeRanks). given.node == n) cert.ranks.items) (find (λ (given : NodeRanks). given.node == n) other.ranks.items) e found)

-- the level of a node is that of its owners too
pub levels_are : (plan plan' : Plan) (cert other : Certificate) → plan_value plan ≡ plan_value plan' → certificate_value cert ≡ certificate_value other → (n : ℕ) → level plan cert n ≡ level plan' other n
levels_are plan plan' cert other same same' n =
    ap (λ (o : Option ℕ). unwrap_or (option_map (λ _. given_level cert n) o) 0) (owners plan plan' same n)
    ∙ ap (λ (k : ℕ). unwrap_or (option_map (λ _. k) (owner_of plan' n)) 0) (levels cert other same' n)
