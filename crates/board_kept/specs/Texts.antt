-- How a board writes what stands in a plan.
use Rattle.std.{specs.Prelude.{ℕ, nat_eq, if◌then◌else◌, List, [], ◌++◌, codes, length, Option, Some, None, unwrap_or}, specs.Fmt.{decimal}}
use Rattle.hex.specs.Hex.{encode_lower}
use Rattle.plan_values.{specs.declared.plan.Plan.{Plan}, specs.declared.nodes.Row.{Row}}
use Rattle.net_tables.specs.Names.{name_of_bus, name_of_node}
use Rattle.board_values.specs.Eids.{eids_text}

-- the word of a physical transport binding identifier (DSP0239)
abbrev pub binding_word : ℕ → Option (List ℕ)
binding_word n =
    if nat_eq n 1 then Some (codes "smbus") else if nat_eq n 2 then Some (codes "pcie")
    else if nat_eq n 3 then Some (codes "usb") else if nat_eq n 4 then Some (codes "kcs")
    else if nat_eq n 5 then Some (codes "serial") else if nat_eq n 6 then Some (codes "i3c") else None

-- a port: the bus at an index and, where it has one, its address in hex
abbrev pub port_text : Plan → ℕ → List ℕ → List ℕ
port_text plan bus address =
    if nat_eq (length address) 0 then unwrap_or (name_of_bus plan bus) []
    else (unwrap_or (name_of_bus plan bus) [] ++ (codes " " ++ encode_lower address))

-- a row: its endpoint IDs, the next node and the port
abbrev pub row_text : Plan → Row → List ℕ
row_text plan row = eids_text row.first.value row.size
    ++ (codes " via " ++ (unwrap_or (name_of_node plan row.next) [] ++ (codes " port " ++ decimal row.port)))
