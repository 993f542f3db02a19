-- The lines of an assignment's requests.
use Rattle.std.{specs.Prelude.{ℕ, List, ◌++◌, codes}, specs.List.{flat_map}}
use Rattle.hex.specs.Hex.{encode_lower}
use Rattle.mctp_control.specs.Requests.{request_bytes}
use Rattle.plan_values.specs.declared.plan.Plan.{Plan}
use Rattle.net_sim.specs.Assignments.{AssignmentValue}
use Rattle.net_tables.specs.Names.{bus_name, node_name}

-- the names of a request's bus and node, and its bytes in hex
abbrev pub assignment_text : Plan → AssignmentValue → List ℕ
assignment_text plan asked =
    bus_name plan asked.bus ++ (codes " " ++ (node_name plan asked.node ++ (codes " "
    ++ (encode_lower (request_bytes asked.body) ++ codes "\n"))))

-- a line for each request, in their order
abbrev pub assignment_lines : Plan → List AssignmentValue → List ℕ
assignment_lines plan list = flat_map (assignment_text plan) list
