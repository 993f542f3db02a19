-- Each command has one of the four numbers.
use Rattle.std.proofs.Common.{refl, inl, inr}
use Rattle.mctp_control.{specs.Numbers.{command_number}, specs.Responses.{IsCommandNumber}, specs.declared.command_number.CommandNumber.{CommandNumber}}
use Rattle.mctp_control.specs.declared.command_number.CommandNumber.TheVariants as command

pub is_number : (c : CommandNumber) → IsCommandNumber (command_number c)
is_number command.SetEndpointId = inl refl
is_number command.GetEndpointId = inr (inl refl)
is_number command.AllocateEndpointIds = inr (inr (inl refl))
is_number command.GetRoutingTableEntries = inr (inr (inr refl))
