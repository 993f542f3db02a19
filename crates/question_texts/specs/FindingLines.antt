-- The lines of what looks wrong in a plan.
use Rattle.std.{specs.Prelude.{ℕ, List, [], ◌++◌, codes, Option, Some, option_map, slice_get, unwrap_or}, specs.Fmt.{decimal}, specs.List.{flat_map}}
use Rattle.net_tables.{specs.Routing.{ports_of}, specs.Names.{node_name}}
use Rattle.plan_values.{specs.declared.nodes.Port.{Port}, specs.declared.plan.Plan.{Plan}}
use Rattle.net_questions.specs.declared.finding.Finding.{Finding}
use Rattle.plan_texts.specs.LineParts.{bus_text, address_text}
use Rattle.net_questions.specs.declared.finding.Finding.TheVariants as finding

-- the bus of n's port p
abbrev pub bus_of_port : Plan → ℕ → ℕ → Option ℕ
bus_of_port plan n p = option_map (λ (port : Port). port.bus) (slice_get (ports_of plan n) p)

-- the address of n's port p; empty where there is no such port
abbrev pub address_of_port : Plan → ℕ → ℕ → List ℕ
address_of_port plan n p =
    unwrap_or (option_map (λ (port : Port). port.address.items) (slice_get (ports_of plan n) p)) []

-- a code and a node
abbrev pub node_finding : List ℕ → Plan → ℕ → List ℕ
node_finding code plan n = code ++ (codes " node " ++ (node_name plan n ++ codes "\n"))

-- a code, a node, and another node after a word that says what it is
abbrev pub pair_finding : List ℕ → Plan → ℕ → List ℕ → ℕ → List ℕ
pair_finding code plan n word m = code ++ (codes " node " ++ (node_name plan n
    ++ (codes " " ++ (word ++ (codes " " ++ (node_name plan m ++ codes "\n"))))))

-- a code, a node, and a number after a word that says what it is
abbrev pub item_finding : List ℕ → Plan → ℕ → List ℕ → ℕ → List ℕ
item_finding code plan n word number = code ++ (codes " node " ++ (node_name plan n
    ++ (codes " " ++ (word ++ (codes " " ++ (decimal number ++ codes "\n"))))))

-- a code and a bus
abbrev pub bus_finding : List ℕ → Plan → ℕ → List ℕ
bus_finding code plan b = code ++ (codes " bus " ++ (bus_text plan (Some b) ++ codes "\n"))

-- a code, a node, one of its ports, and the bus of the port
abbrev pub port_finding : List ℕ → Plan → ℕ → ℕ → List ℕ
port_finding code plan n p = code ++ (codes " node " ++ (node_name plan n ++ (codes " port " ++ (decimal p
    ++ (codes " bus " ++ (bus_text plan (bus_of_port plan n p) ++ codes "\n"))))))

-- a node, one of its ports, and the bus of the port
abbrev pub port_on_bus : List ℕ → ℕ → List ℕ → List ℕ
port_on_bus name p bus = codes "node " ++ (name ++ (codes " port " ++ (decimal p ++ (codes " bus " ++ bus))))

-- such a port, with the address that it shares with another node's port
abbrev pub shared_address_line : (port address other : List ℕ) → ℕ → List ℕ
shared_address_line port address other q = codes "H01 " ++ (port ++ (codes " address " ++ (address
    ++ (codes " node " ++ (other ++ (codes " port " ++ (decimal q ++ codes "\n")))))))

-- two ports, the bus of the first one, and its address
abbrev pub address_finding : Plan → ℕ → ℕ → ℕ → ℕ → List ℕ
address_finding plan n p m q =
    shared_address_line (port_on_bus (node_name plan n) p (bus_text plan (bus_of_port plan n p)))
    (address_text (address_of_port plan n p)) (node_name plan m) q

-- a node and one of its ports
abbrev pub port_of_node : List ℕ → ℕ → List ℕ
port_of_node name p = codes "node " ++ (name ++ (codes " port " ++ decimal p))

-- two ports, each with its address, and the bus of the first one
abbrev pub bits_finding : Plan → ℕ → ℕ → ℕ → ℕ → List ℕ
bits_finding plan n p m q = codes "H23 " ++ (port_on_bus (node_name plan n) p (bus_text plan (bus_of_port plan n p))
    ++ (codes " address " ++ (address_text (address_of_port plan n p)
    ++ (codes " " ++ (port_of_node (node_name plan m) q
    ++ (codes " address " ++ (address_text (address_of_port plan m q) ++ codes "\n")))))))

-- the line of a finding: its code, and whom it is about
abbrev pub finding_line : Plan → Finding → List ℕ
finding_line plan (finding.SharedAddress n p m q) = address_finding plan n p m q
finding_line plan (finding.MissingAddress n p) = port_finding (codes "H02") plan n p
finding_line plan (finding.SharedTid n m) = pair_finding (codes "H03") plan n (codes "node") m
finding_line plan (finding.MissingLocator n) = node_finding (codes "H04") plan n
finding_line plan (finding.SharedSensorId n j) = item_finding (codes "H05") plan n (codes "record") j
finding_line plan (finding.OwnerHasNoWay n m) = pair_finding (codes "H06") plan n (codes "owner") m
finding_line plan (finding.NoWayToOwner n m) = pair_finding (codes "H07") plan n (codes "owner") m
finding_line plan (finding.IdleRow n r) = item_finding (codes "H08") plan n (codes "row") r
finding_line plan (finding.PoolEidNotLedOn n eid) = item_finding (codes "H09") plan n (codes "eid") eid.value
finding_line plan (finding.LonePort n p) = port_finding (codes "H10") plan n p
finding_line plan (finding.EmptyReadableRange n j) = item_finding (codes "H11") plan n (codes "record") j
finding_line plan (finding.Isolated n) = node_finding (codes "H12") plan n
finding_line plan (finding.ForeignMedia b) = bus_finding (codes "H13") plan b
finding_line plan (finding.ReservedBinding b) = bus_finding (codes "H14") plan b
finding_line plan (finding.ReservedAddress n p) = port_finding (codes "H15") plan n p
finding_line plan (finding.EmptyBus b) = bus_finding (codes "H16") plan b
finding_line plan (finding.CrossedThresholds n j) = item_finding (codes "H17") plan n (codes "record") j
finding_line plan (finding.UnknownTerminusHandle n j) = item_finding (codes "H18") plan n (codes "record") j
finding_line plan (finding.UncontainedEntity n j) = item_finding (codes "H19") plan n (codes "record") j
finding_line plan (finding.OddAddress n p) = port_finding (codes "H20") plan n p
finding_line plan (finding.ForeignLength n p) = port_finding (codes "H21") plan n p
finding_line plan (finding.UncarriedUnit b) = bus_finding (codes "H22") plan b
finding_line plan (finding.SharedSevenBits n p m q) = bits_finding plan n p m q

-- a line for each finding, in their order
abbrev pub findings_text : Plan → List Finding → List ℕ
findings_text plan findings = flat_map (finding_line plan) findings
