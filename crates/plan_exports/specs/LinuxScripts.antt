-- The shell script that gives a Linux node its planned state.
use Rattle.std.{specs.Prelude.{◌≡◌, ℕ, ◌+◌, ◌-◌, ◌/◌, ◌==◌, ◌&&◌, not, List, [], ◌++◌, codes, if◌then◌else◌, filter, length, Option, Some, None, map, unwrap_or}, specs.Fmt.{decimal}, specs.List.{flat_map, list_any, range_with_len}}
use Rattle.plan_values.specs.declared.plan.Plan.{Plan}
use Rattle.net_tables.{specs.Routing.{eid_of, ports_of}, specs.Names.{bus_name, node_name}}
use Rattle.plan_exports.{specs.Devices.{AreDevices, device_at}, specs.Neighbors.{bus_numbers}, specs.PlannedRows.{RowFacts, ArePlannedRows}, specs.Words.{hex_list}, specs.declared.links.Link.{Link}}

-- the buses on which n has a port, in the plan's order
abbrev pub buses_at : Plan → ℕ → List ℕ
buses_at plan n =
    filter (λ bus. list_any (λ port. port.bus == bus) (ports_of plan n)) (range_with_len 0 (length plan.buses.items))

-- the device of a row's bus
abbrev pub device_on : List (List ℕ) → Option ℕ → List ℕ
device_on devices (Some bus) = device_at devices bus
device_on devices None = codes "-"

-- what the script begins with
abbrev pub head_lines : Plan → ℕ → List ℕ
head_lines plan n = codes "#!/bin/sh\n# The planned state of the node " ++ (node_name plan n
    ++ (codes ". Made by mctpplan export linux.\n"
    ++ codes "# `|| true` stands where a thing may be there already, from an earlier run.\nset -e\n"))

-- a device is set up, with packets of the plan's transmission unit and four bytes of header
abbrev pub link_lines : Plan → List (List ℕ) → ℕ → List ℕ
link_lines plan devices bus = codes "mctp link set " ++ (device_at devices bus ++ (codes " up # bus "
    ++ (bus_name plan bus ++ (codes "\nmctp link set " ++ (device_at devices bus ++ (codes " mtu "
    ++ (decimal (plan.unit + 4)
    ++ (codes " # bus " ++ (bus_name plan bus ++ codes "\n")))))))))

-- the node has its endpoint ID there
abbrev pub eid_line : Plan → ℕ → List (List ℕ) → ℕ → List ℕ
eid_line plan n devices bus = codes "mctp addr add " ++ (decimal (unwrap_or (eid_of plan n) 0) ++ (codes " dev "
    ++ (device_at devices bus ++ (codes " || true # node " ++ (node_name plan n ++ codes "\n")))))

-- the first and the last of several endpoint IDs
abbrev pub span_text : (first size : ℕ) → List ℕ
span_text first size = decimal first ++ (codes "-" ++ decimal (first + size - 1))

-- an endpoint ID alone, or the first and the last of several
abbrev pub range_text : (first size : ℕ) → List ℕ
range_text first size = if size == 1 then decimal first else span_text first size

-- packets to a row's endpoint IDs leave by its device
abbrev pub route_line : Plan → List (List ℕ) → RowFacts → List ℕ
route_line plan devices row = codes "mctp route add " ++ (range_text row.first row.size ++ (codes " via "
    ++ (device_on devices row.bus ++ (codes " || true # to " ++ (node_name plan row.next ++ codes "\n")))))

-- packets to an endpoint ID go to an address there, which is a node's
abbrev pub neighbor_command : (device address name : List ℕ) → ℕ → List ℕ
neighbor_command device address name eid = codes "mctp neigh add " ++ (decimal eid ++ (codes " dev " ++ (device
    ++ (codes " lladdr 0x" ++ (hex_list (codes ":") address ++ (codes " || true # of " ++ (name ++ codes "\n")))))))

-- such a command behind a text
abbrev pub neighbor_line : (front device address name : List ℕ) → ℕ → List ℕ
neighbor_line front device address name eid = front ++ neighbor_command device address name eid

-- Over I3C (binding 6) Linux names a neighbour by its provisioned ID, which has six bytes. Where the plan has another
-- address the line is a comment.
abbrev pub neighbor_front : ℕ → List ℕ → List ℕ
neighbor_front binding address =
    if (binding == 6) && not (length address == 6) then codes "# no PID in the plan: " else []

-- A byte of an address on a bus of a binding as Linux has it. Over SMBus and I2C (binding 1) the byte of a routing
-- entry has the seven bits of the address above a clear bit (DSP0237), which Linux leaves out.
abbrev pub link_byte : ℕ → ℕ → ℕ
link_byte binding byte = if binding == 1 then byte / 2 else byte

abbrev pub link_address : ℕ → List ℕ → List ℕ
link_address binding address = map (link_byte binding) address

-- so do those to each of a row's endpoint IDs, where the next node has an address
abbrev pub neighbor_lines : Plan → List (List ℕ) → RowFacts → List ℕ
neighbor_lines plan devices row = if length row.address == 0 then []
    else flat_map (neighbor_line (neighbor_front (bus_numbers plan row.bus).0 row.address) (device_on devices row.bus)
    (link_address (bus_numbers plan row.bus).0 row.address)
    (node_name plan row.next)) (range_with_len row.first row.size)

-- a line for each command
abbrev pub linux_text : Plan → ℕ → List (List ℕ) → List RowFacts → List ℕ
linux_text plan n devices rows = head_lines plan n
    ++ (flat_map (link_lines plan devices) (buses_at plan n)
    ++ (flat_map (eid_line plan n devices) (buses_at plan n)
    ++ (flat_map (route_line plan devices) rows ++ flat_map (neighbor_lines plan devices) rows)))

-- The text is the script of n, with the devices that the links give, and all of its rows.
pub record IsLinuxScript (plan : Plan) (n : ℕ) (links : List Link) (text : List ℕ) : Type 0 where
  pub devices : List (List ℕ)
  pub linked : AreDevices plan links devices
  pub rows : List RowFacts
  pub planned : ArePlannedRows plan n rows
  pub text_is : text ≡ linux_text plan n devices rows
