-- A script with its devices and rows is that of the node.
use Rattle.std.proofs.Common.{◌≡◌, ℕ, List, ap}
use Rattle.plan_values.specs.declared.plan.Plan.{Plan}
use Rattle.plan_exports.{specs.Devices.{AreDevices}, specs.LinuxScripts.{IsLinuxScript, linux_text}, specs.PlannedRows.{RowFacts, ArePlannedRows}, specs.declared.links.Link.{Link}}

pub is_script : (plan : Plan) (n : ℕ) (links : List Link) (devices : List (List ℕ)) (rows : List RowFacts) (text : List ℕ) → AreDevices plan links devices
    → ArePlannedRows plan n rows → text ≡ linux_text plan n devices rows → IsLinuxScript plan n links text
is_script plan n links devices rows text linked planned is = record { devices = devices; linked = linked; rows = rows; planned = planned; text_is = is }
