-- The codes that users see, and the numbers of an entry's kinds.
use Rattle.std.specs.Prelude.{ℕ, List, codes}
use Rattle.mctp_control.{specs.declared.control_error.ControlError.{ControlError}, specs.declared.route_entry.EntryKind.{EntryKind}}
use Rattle.mctp_control.specs.declared.control_error.ControlError.TheVariants as error
use Rattle.mctp_control.specs.declared.route_entry.EntryKind.TheVariants as kind

-- the code that users see
abbrev pub code_of : ControlError → List ℕ
code_of error.Short = codes "K01"
code_of error.OtherMessage = codes "K02"
code_of error.Length = codes "K03"
code_of error.UnknownCommand = codes "K04"

-- what a routing table entry is for
abbrev pub kind_number : EntryKind → ℕ
kind_number kind.Endpoint = 0
kind_number kind.BridgeAndRange = 1
kind_number kind.Bridge = 2
kind_number kind.Range = 3
