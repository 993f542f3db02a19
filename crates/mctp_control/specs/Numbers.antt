-- The numbers that operations and statuses have in their bits (DSP0236, the commands of these names).
use Rattle.std.specs.Prelude.{ℕ}
use Rattle.mctp_control.{specs.declared.operations.SetOperation.{SetOperation}, specs.declared.operations.AllocateOperation.{AllocateOperation}, specs.declared.statuses.Acceptance.{Acceptance}, specs.declared.statuses.Allocation.{Allocation}, specs.declared.statuses.EndpointType.{EndpointType}, specs.declared.statuses.EidType.{EidType}, specs.declared.command_number.CommandNumber.{CommandNumber}}
use Rattle.mctp_control.specs.declared.operations.SetOperation.TheVariants as set
use Rattle.mctp_control.specs.declared.operations.AllocateOperation.TheVariants as allocate
use Rattle.mctp_control.specs.declared.statuses.Acceptance.TheVariants as acceptance
use Rattle.mctp_control.specs.declared.statuses.Allocation.TheVariants as allocation
use Rattle.mctp_control.specs.declared.statuses.EndpointType.TheVariants as endpoint
use Rattle.mctp_control.specs.declared.statuses.EidType.TheVariants as eid
use Rattle.mctp_control.specs.declared.command_number.CommandNumber.TheVariants as command

-- the operation of Set Endpoint ID
abbrev pub set_number : SetOperation → ℕ
set_number set.Set = 0
set_number set.Force = 1
set_number set.Reset = 2
set_number set.SetDiscovered = 3

-- the operation of Allocate Endpoint IDs
abbrev pub allocate_number : AllocateOperation → ℕ
allocate_number allocate.Allocate = 0
allocate_number allocate.Force = 1
allocate_number allocate.GetInformation = 2
allocate_number allocate.Reserved = 3

-- whether an EID or a pool was accepted
abbrev pub acceptance_number : Acceptance → ℕ
acceptance_number acceptance.Accepted = 0
acceptance_number acceptance.Rejected = 1
acceptance_number acceptance.Reserved2 = 2
acceptance_number acceptance.Reserved3 = 3

-- whether the device wants a pool
abbrev pub allocation_number : Allocation → ℕ
allocation_number allocation.NoPool = 0
allocation_number allocation.Required = 1
allocation_number allocation.Received = 2
allocation_number allocation.Reserved = 3

abbrev pub endpoint_number : EndpointType → ℕ
endpoint_number endpoint.Simple = 0
endpoint_number endpoint.Bridge = 1
endpoint_number endpoint.Reserved2 = 2
endpoint_number endpoint.Reserved3 = 3

abbrev pub eid_type_number : EidType → ℕ
eid_type_number eid.Dynamic = 0
eid_type_number eid.Static = 1
eid_type_number eid.StaticPresent = 2
eid_type_number eid.StaticReplaced = 3

-- the number of a command
abbrev pub command_number : CommandNumber → ℕ
command_number command.SetEndpointId = 1
command_number command.GetEndpointId = 2
command_number command.AllocateEndpointIds = 8
command_number command.GetRoutingTableEntries = 10
