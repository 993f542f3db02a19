-- What a node does with a packet that is there (the order of the cases is this project's own).
use Rattle.std.specs.Prelude.{◌≡◌, ◌⊎◌, ℕ, Bool, List, IsTrue, codes}
use Rattle.mctp_transport.{specs.PacketValues.{IsAssignable}, specs.declared.device_kind.DeviceKind.{DeviceKind}, specs.declared.device_kind.DeviceKind.TheVariants.{Bridge}}
use Rattle.mctp_routing.{specs.declared.row.TableRow.{TableRow}, specs.declared.row.Hop.{Hop}, specs.declared.decision.ForwardFault.{ForwardFault}, specs.declared.decision.ForwardFault.TheVariants.{Unassignable, NoBridge, NoRow}, specs.declared.decision.Decision.{Decision}, specs.declared.decision.Decision.TheVariants.{Here, Drop, Forward}, specs.Rows.{Routes}}

-- What the node decides on a packet for e, by whether it holds e, whether it forwards the packet at all, and along
-- which hops it routes e: the first that applies of taking it, the three faults, and else sending it on along a hop.
abbrev pub Decides : (holds forwards : Type 0) (routes : Hop → Type 0) (e : ℕ) → Decision → Type 0
Decides holds forwards routes e Here = holds
Decides holds forwards routes e (Drop Unassignable) = ¬ holds × ¬ IsAssignable e
Decides holds forwards routes e (Drop NoBridge) = ¬ holds × IsAssignable e × ¬ forwards
Decides holds forwards routes e (Drop NoRow) = ¬ holds × IsAssignable e × forwards × ((hop : Hop) → ¬ routes hop)
Decides holds forwards routes e (Forward hop) = ¬ holds × IsAssignable e × forwards × routes hop

-- a bridge forwards the packets of others; each node sends its own
abbrev pub Forwards : DeviceKind → Bool → Type 0
Forwards kind at_origin = (kind ≡ Bridge) ⊎ IsTrue at_origin

-- what a node of this EID, kind and rows decides on a packet for e
abbrev pub IsDecided : ℕ → DeviceKind → List TableRow → Bool → ℕ → Decision → Type 0
IsDecided eid kind rows at_origin e decision = Decides (e ≡ eid) (Forwards kind at_origin) (Routes rows e) e decision

-- the code that users see
abbrev pub forward_fault_code : ForwardFault → List ℕ
forward_fault_code Unassignable = codes "B10"
forward_fault_code NoBridge = codes "B12"
forward_fault_code NoRow = codes "B11"
