-- What the rules of an accepted plan say of a node that is emulated.
use Rattle.std.{proofs.Common.{◌≡◌, ℕ, Bool, List, [], Some, None, Option, Result, Ok, Err, IfOk, option_map, refl, sym, ap, subst, ◌∙◌, arith}, specs.Option.{option_and_then}}
use Rattle.plan_values.{specs.declared.certificate.Certificate.{Certificate}, specs.declared.nodes.Node.{Node}, specs.declared.nodes.Pool.{Pool}, specs.declared.plan.Plan.{Plan}, specs.declared.terminus.PlannedTerminus.{PlannedTerminus}}
use Rattle.net_rules.{specs.Pools.{IsPoolInRange, IsLawfulPool, HasLawfulPool}, specs.Rules.{Accepts}, specs.declared.rule.Rule.TheVariants.{C02, C04, C05, C06, C09}}
use Rattle.net_tables.{specs.Ownership.{pool_of}, specs.Repositories.{records_by_place, terminus_of}, specs.Routing.{node_at, rows_of}, specs.Tables.{AreRows}, specs.Names.{device_kind}}
use Rattle.plan_exports.{specs.PlannedTables.{HasLawfulRows}, specs.PlannedRows.{IsOrdered}, specs.TableAnswers.{AreEntriesOf}}
use Rattle.mctp_control.{specs.Ranges.{IsAssignableRange}, specs.Devices.{DeviceValue}, specs.RouteEntries.{EntryValue}}
use Rattle.emulated_node.{specs.Nodes.{NodeState, Setting, TerminusValue}, specs.Standing.{HasNodeState, at_start, setting_of}, specs.Termini.{terminus_value}, specs.declared.emulated.Emulated.{Emulated}}
use Rattle.mctp_transport.specs.declared.device_kind.DeviceKind.{DeviceKind}
use Rattle.mctp_routing.specs.declared.row.TableRow.{TableRow}
use Rattle.net_runs.specs.Termini.{TerminusState, terminus_at_start}
use Rattle.net_sim.specs.Dealing.{resting}
use Rattle.pdr_repository.{specs.BlockTermini.{block_tid, block_records}, specs.declared.block_terminus.BlockTerminus.{BlockTerminus}}
use Rattle.bus_commands.specs.Starting.{HoldsLawfully, IsStart, device_at_start, planned_terminus}
use Rattle.plan_values.specs.declared.nodes.Kind.TheVariants as kind

-- by C04 and C05 the rows make a routing table
pub are_rows : (plan : Plan) (cert : Certificate) (n : ℕ) → Accepts plan cert → AreRows (rows_of plan n)
are_rows plan cert n accepted = λ r row is. ((accepted C05 n (Some r) None).0 row is, (accepted C04 n (Some r) None).0 row is)

-- by C06 each leads to a neighbor
pub have_lawful_rows : (plan : Plan) (cert : Certificate) (n : ℕ) → Accepts plan cert → HasLawfulRows plan n
have_lawful_rows plan cert n accepted = record { rows = are_rows plan cert n accepted; neighbors = λ r row is. (accepted C06 n (Some r) None).0 row is }

module _ (plan : Plan) (cert : Certificate) (n : ℕ) (node : Node) (accepted : Accepts plan cert) (there : node_at plan n ≡ Some node) where
  -- by C09 a pool is a bridge's, and can be given out
  lawful_pool : (pool : Pool) → node.pool ≡ Some pool → (node.kind ≡ kind.Bridge) × IsAssignableRange pool.first.value pool.size
  unfolding HasLawfulPool IsLawfulPool IsPoolInRange
  lawful_pool pool is =
      let has : pool_of plan n ≡ Some pool = ap (option_and_then (λ (x : Node). x.pool)) there ∙ is in
      let lawful = (accepted C09 n None None).0 pool has in
      let bridge : Some node.kind ≡ Some kind.Bridge = ap (option_map (λ (x : Node). x.kind)) (sym there) ∙ lawful.0 in
      let same : node.kind ≡ kind.Bridge = cc in
      let some = lawful.1.0 in
      (same, (omega arith, lawful.1.1, lawful.1.2))

  -- by C02 its endpoint ID can be assigned
  pub holds_lawfully : HoldsLawfully node
  holds_lawfully = record {
    eid = (accepted C02 n None (Some node.eid.value)).0 (ap (option_map (λ (x : Node). x.eid.value)) there);
    pool = lawful_pool;
  }

fused : {A B C : Type 0} (g : B → C) (f : A → B) (o : Option A) → option_map g (option_map f o) ≡ option_map (λ a. g (f a)) o
fused g f None = refl
fused g f (Some a) = refl

-- nothing waits at a planned terminus: so it is its TID and its records
pub planned_so : (plan : Plan) (cert : Certificate) (n : ℕ) (terminus : Option BlockTerminus) → option_map (resting block_tid block_records) terminus ≡ terminus_at_start plan cert n
    → option_map (terminus_value block_tid block_records) terminus ≡ planned_terminus plan cert n
planned_so plan cert n terminus is =
    let value_of : TerminusState → TerminusValue = λ s. record { tid = s.tid; records = s.records } in
    let planned : PlannedTerminus → TerminusState = λ t. record { tid = t.tid; records = records_by_place plan cert n; waiting = [] } in
    sym (fused value_of (resting block_tid block_records) terminus) ∙ (ap (option_map value_of) is ∙ fused value_of planned (terminus_of plan n))

-- what is made of these is the node at its start
pub started : {E : Type 0} (is_configured : Bool) (plan plan' : Plan) (cert cert' : Certificate) (n : ℕ) (node : Node) (kind_is : DeviceKind) (rows : List TableRow)
    (entries : List EntryValue) (device : DeviceValue) (terminus : Option TerminusValue) (made : Result (Emulated BlockTerminus) E)
    → plan' ≡ plan → cert' ≡ cert → node_at plan' n ≡ Some node → kind_is ≡ device_kind node.kind → IsOrdered plan' n rows → AreEntriesOf plan' n entries
    → device ≡ device_at_start is_configured node → terminus ≡ planned_terminus plan' cert' n
    → IfOk made (λ e. setting_of e ≡ record { plan = plan'; node = n; kind = kind_is; rows = rows; entries = entries })
    → IfOk made (λ e. HasNodeState block_tid block_records e (at_start device terminus))
    → IfOk made (λ e. (s : NodeState) × IsStart is_configured plan cert n (setting_of e) s × HasNodeState block_tid block_records e s)
started is_configured plan plan' cert cert' n node kind_is rows entries device terminus (Ok e) same same_cert there kind ordered listed holds records setting stands =
    let at : node_at plan n ≡ Some node = subst (λ (p : Plan). node_at p n ≡ Some node) same there in (
      at_start device terminus,
      record {
        node = node;
        there = at;
        plan_is = ap (λ (set : Setting). set.plan) setting ∙ same;
        node_is = ap (λ (set : Setting). set.node) setting;
        kind = ap (λ (set : Setting). set.kind) setting ∙ kind;
        rows = subst (IsOrdered plan n) (sym (ap (λ (set : Setting). set.rows) setting)) (subst (λ (p : Plan). IsOrdered p n rows) same ordered);
        entries = subst (AreEntriesOf plan n) (sym (ap (λ (set : Setting). set.entries) setting)) (subst (λ (p : Plan). AreEntriesOf p n entries) same listed);
        state = ap (λ d. at_start d terminus) holds
            ∙ ap (at_start (device_at_start is_configured node)) (records ∙ (ap (λ (p : Plan). planned_terminus p cert' n) same ∙ ap (λ (k : Certificate). planned_terminus plan k n) same_cert));
      },
      stands,
    )
started is_configured plan plan' cert cert' n node kind_is rows entries device terminus (Err why) same same_cert there kind ordered listed holds records setting stands = tt
