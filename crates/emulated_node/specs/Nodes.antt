-- What a node is by its plan, and what it holds at one moment.
use Rattle.std.specs.Prelude.{ℕ, List, Option}
use Rattle.mctp_transport.{specs.declared.device_kind.DeviceKind.{DeviceKind}, specs.Histories.{History}}
use Rattle.mctp_routing.specs.declared.row.TableRow.{TableRow}
use Rattle.mctp_control.{specs.Devices.{DeviceValue}, specs.RouteEntries.{EntryValue}}
use Rattle.plan_values.specs.declared.plan.Plan.{Plan}
use Rattle.pdr_repository.specs.Records.{Entry}

-- a node of a plan, what it is, the rows of its routing table, and the entries that tell these
pub record Setting : Type 0 where
  pub plan : Plan
  pub node : ℕ
  pub kind : DeviceKind
  pub rows : List TableRow
  pub entries : List EntryValue

-- a terminus: its TID and its records by place
pub record TerminusValue : Type 0 where
  pub tid : ℕ
  pub records : List Entry

-- its device, its terminus, if it has one, and all packets for it that came over each bus
pub record NodeState : Type 0 where
  pub device : DeviceValue
  pub terminus : Option TerminusValue
  pub history : ℕ → History
