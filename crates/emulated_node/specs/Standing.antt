-- What an emulated node stands for.
use Rattle.std.specs.Prelude.{◌≡◌, ℕ, List, [], Option, option_map}
use Rattle.mctp_control.{specs.Devices.{DeviceValue, device_value}, specs.EntryLists.{values_of}}
use Rattle.pdr_repository.specs.Records.{Entry}
use Rattle.emulated_node.{specs.declared.emulated.Emulated.{Emulated}, specs.Heard.{HaveBeenGiven}, specs.Nodes.{NodeState, Setting, TerminusValue}, specs.Termini.{terminus_value}}

abbrev pub setting_of : {T : Type 0} → Emulated T → Setting
setting_of e = record {
  plan = e.plan.now;
  node = e.node;
  kind = e.kind;
  rows = e.table;
  entries = values_of e.entries.items;
}

-- nothing has come yet
abbrev pub at_start : DeviceValue → Option TerminusValue → NodeState
at_start device terminus = record { device = device; terminus = terminus; history = λ _. [] }

-- The device and the terminus are those of the state, and the assembler of each bus was given what came over it.
pub record HasNodeState {T : Type 0} (tid : T → ℕ) (records : T → List Entry) (e : Emulated T)
    (s : NodeState) : Type 0 where
  pub device : s.device ≡ device_value e.device
  pub terminus : s.terminus ≡ option_map (terminus_value tid records) e.terminus
  pub histories : HaveBeenGiven e.assemblers.items s.history
