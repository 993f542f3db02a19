-- A planned node before a packet has come to it.
use Rattle.std.specs.Prelude.{◌≡◌, ℕ, Bool, true, false, Option, Some, None, option_map}
use Rattle.emulated_node.{specs.Nodes.{NodeState, Setting, TerminusValue}, specs.Standing.{at_start}}
use Rattle.mctp_control.{specs.Devices.{DeviceValue}, specs.Ranges.{IsAssignableRange}}
use Rattle.mctp_transport.specs.PacketValues.{IsAssignable}
use Rattle.plan_values.{specs.declared.certificate.Certificate.{Certificate}, specs.declared.nodes.Node.{Node}, specs.declared.nodes.Pool.{Pool}, specs.declared.plan.Plan.{Plan}}
use Rattle.net_tables.{specs.Names.{device_kind}, specs.Repositories.{records_by_place, terminus_of}, specs.Routing.{node_at}}
use Rattle.net_sim.specs.AssignmentRuns.{holding, starting}
use Rattle.plan_exports.{specs.PlannedRows.{IsOrdered}, specs.TableAnswers.{AreEntriesOf}}
use Rattle.plan_values.specs.declared.nodes.Kind.TheVariants as kind

-- its device: configured with what is planned, or as an assignment finds it
abbrev pub device_at_start : Bool → Node → DeviceValue
device_at_start true node = holding node None
device_at_start false node = starting node node.owner

-- the terminus of n with its records by place
abbrev pub planned_terminus : Plan → Certificate → ℕ → Option TerminusValue
planned_terminus plan cert n =
    option_map (λ t. record { tid = t.tid; records = records_by_place plan cert n }) (terminus_of plan n)

-- The setting is that of n, with the planned rows and the entries that tell them, and the state is that in which it has
-- its device and its planned terminus, and nothing has come.
pub record IsStart (is_configured : Bool) (plan : Plan) (cert : Certificate) (n : ℕ) (set : Setting)
    (s : NodeState) : Type 0 where
  pub node : Node
  pub there : node_at plan n ≡ Some node
  pub plan_is : set.plan ≡ plan
  pub node_is : set.node ≡ n
  pub kind : set.kind ≡ device_kind node.kind
  pub rows : IsOrdered plan n set.rows
  pub entries : AreEntriesOf plan n set.entries
  pub state : s ≡ at_start (device_at_start is_configured node) (planned_terminus plan cert n)

-- the node's endpoint ID can be assigned, and where it has a pool, it is a bridge, and the pool can be assigned too
pub record HoldsLawfully (node : Node) : Type 0 where
  pub eid : IsAssignable node.eid.value
  pub pool : (pool : Pool) → node.pool ≡ Some pool
      → (node.kind ≡ kind.Bridge) × IsAssignableRange pool.first.value pool.size
