-- The PLDM types and command bytes of the commands (DSP0240, messaging control and discovery; DSP0248, GetPDR).
use Rattle.std.specs.Prelude.{ℕ}
use Rattle.pldm_message.{specs.declared.command.Command.{Command}, specs.declared.command.Command.TheVariants.{SetTid, GetTid, GetPldmTypes, GetPdr}}

-- 0 for messaging control and discovery, 2 for platform monitoring and control
abbrev pub type_of : Command → ℕ
type_of SetTid = 0
type_of GetTid = 0
type_of GetPldmTypes = 0
type_of GetPdr = 2

abbrev pub command_byte : Command → ℕ
command_byte SetTid = 0x01
command_byte GetTid = 0x02
command_byte GetPldmTypes = 0x04
command_byte GetPdr = 0x51
