-- The script that has the daemon mctpd of a Linux node give the endpoint IDs that the plan has it give.
use Rattle.std.{specs.Prelude.{◌≡◌, ℕ, ◌+◌, ◌-◌, ◌==◌, List, [], ◌++◌, codes, if◌then◌else◌, find, length, Option, Some, None, option_map, unwrap_or}, specs.Fmt.{decimal}, specs.List.{flat_map, list_any, range_with_len}}
use Rattle.plan_values.{specs.declared.nodes.Pool.{Pool}, specs.declared.plan.Plan.{Plan}}
use Rattle.net_tables.{specs.Names.{address_on, node_name}, specs.Ownership.{owner_of, pool_of}, specs.Routing.{eid_of, ports_of}}
use Rattle.plan_exports.{specs.Devices.{AreDevices}, specs.LinuxScripts.{device_on, link_address, neighbor_front}, specs.Neighbors.{bus_numbers}, specs.Words.{hex_list}, specs.declared.links.Link.{Link}}

-- the bus of m's lowest port whose bus n shares
abbrev pub shared_bus : Plan → (n m : ℕ) → Option ℕ
shared_bus plan n m = option_map (λ port. port.bus)
    (find (λ port. list_any (λ other. other.bus == port.bus) (ports_of plan n)) (ports_of plan m))

-- what the script begins with
abbrev pub mctpd_head : Plan → ℕ → List ℕ
mctpd_head plan n = codes "#!/bin/sh\n# The endpoint IDs that the node " ++ (node_name plan n
    ++ (codes " gives. Made by mctpplan export mctpd.\n"
    ++ (codes "# These words are those of mctpd 2.2 (CodeConstruct's mctp); a later release may have others.\n"
    ++ codes "set -e\ncat > \"${MCTPD_CONF:-/etc/mctpd.conf}\" << 'END'\n")))

-- the endpoint IDs that are given by themselves are those of the pool
abbrev pub owner_conf : Pool → List ℕ
owner_conf pool = codes "mode = \"bus-owner\"\n\n[mctp]\n\n[bus-owner]\n# the node's pool\ndynamic_eid_range = ["
    ++ (decimal pool.first.value ++ (codes ", " ++ (decimal (pool.first.value + pool.size - 1) ++ codes "]\nEND\n")))

abbrev pub endpoint_conf : List ℕ
endpoint_conf = codes "mode = \"endpoint\"\n\n[mctp]\nEND\n"

-- the configuration: a node gives endpoint IDs where it has a pool
abbrev pub conf_lines : Plan → ℕ → List ℕ
conf_lines plan n = unwrap_or (option_map owner_conf (pool_of plan n)) endpoint_conf

-- what makes a comment of a line whose address the plan lacks
abbrev pub child_front : ℕ → List ℕ → List ℕ
child_front binding address =
    if length address == 0 then codes "# no address in the plan: " else neighbor_front binding address

-- an address as busctl has a list of bytes: how many they are, and each of them
abbrev pub address_words : List ℕ → List ℕ
address_words address = decimal (length address) ++ (codes " 0x" ++ hex_list (codes " 0x") address)

-- a node of this name is given the endpoint ID at an address of a device, in these words
abbrev pub call_line : (device address : List ℕ) → ℕ → (name : List ℕ) → List ℕ
call_line device address eid name =
    codes "busctl call au.com.codeconstruct.MCTP1 /au/com/codeconstruct/mctp1/interfaces/"
    ++ (device ++ (codes " au.com.codeconstruct.MCTP.BusOwner1 AssignEndpointStatic ayy "
    ++ (address ++ (codes " " ++ (decimal eid ++ (codes " # " ++ (name ++ codes "\n")))))))

abbrev pub asked_line : Plan → (device address : List ℕ) → ℕ → List ℕ
asked_line plan device address m =
    call_line device (address_words address) (unwrap_or (eid_of plan m) 0) (node_name plan m)

abbrev pub line_behind : Plan → (front device address : List ℕ) → ℕ → List ℕ
line_behind plan front device address m = front ++ asked_line plan device address m

-- the line of m, at an address of a device whose bus has the binding
abbrev pub line_at : Plan → (device : List ℕ) → ℕ → (address : List ℕ) → ℕ → List ℕ
line_at plan device binding address m =
    line_behind plan (child_front binding address) device (link_address binding address) m

abbrev pub line_over : Plan → List (List ℕ) → Option ℕ → ℕ → List ℕ
line_over plan devices bus m =
    line_at plan (device_on devices bus) (bus_numbers plan bus).0 (address_on plan m bus) m

-- the line of m, which n owns: it is asked over the bus that both share
abbrev pub owned_line : Plan → ℕ → List (List ℕ) → ℕ → List ℕ
owned_line plan n devices m = line_over plan devices (shared_bus plan n m) m

-- nothing for a node that n doesn't own
abbrev pub child_line : Plan → ℕ → List (List ℕ) → ℕ → List ℕ
child_line plan n devices m =
    unwrap_or (option_map (λ owner. if owner == n then owned_line plan n devices m else []) (owner_of plan m)) []

abbrev pub children_lines : Plan → ℕ → List (List ℕ) → List ℕ
children_lines plan n devices = flat_map (child_line plan n devices) (range_with_len 0 (length plan.nodes.items))

abbrev pub mctpd_text : Plan → ℕ → List (List ℕ) → List ℕ
mctpd_text plan n devices = mctpd_head plan n ++ (conf_lines plan n ++ children_lines plan n devices)

-- The text is the script of n, with the devices that the links give.
pub record IsMctpdScript (plan : Plan) (n : ℕ) (links : List Link) (text : List ℕ) : Type 0 where
  pub devices : List (List ℕ)
  pub linked : AreDevices plan links devices
  pub text_is : text ≡ mctpd_text plan n devices
