-- The lines that sum up a plan that a certificate fits.
use Rattle.std.{specs.Prelude.{ℕ, List, ◌++◌, length, sum_by, codes, Option, Some, None}, specs.Fmt.{decimal}}
use Rattle.net_explained.specs.declared.hops.MostHops.{MostHops}
use Rattle.plan_values.{specs.declared.nodes.Node.{Node}, specs.declared.plan.Plan.{Plan}, specs.declared.terminus.PlannedTerminus.{PlannedTerminus}}
use Rattle.net_tables.specs.Names.{node_name}

-- how many records a terminus has, 0 without one
abbrev pub record_count_of : Option PlannedTerminus → ℕ
record_count_of None = 0
record_count_of (Some terminus) = length terminus.records.items

abbrev pub record_count : Node → ℕ
record_count node = record_count_of node.terminus

-- how many rows the nodes have together, and how many records
abbrev pub rows_in_all : List Node → ℕ
rows_in_all nodes = sum_by (λ node. length node.rows.items) nodes

abbrev pub records_in_all : List Node → ℕ
records_in_all nodes = sum_by record_count nodes

-- how many nodes, buses, rows and records there are
abbrev pub counts_line : Plan → List ℕ
counts_line plan = codes "nodes " ++ (decimal (length plan.nodes.items)
    ++ (codes " buses " ++ (decimal (length plan.buses.items)
    ++ (codes " rows " ++ (decimal (rows_in_all plan.nodes.items)
    ++ (codes " records " ++ (decimal (records_in_all plan.nodes.items) ++ codes "\n")))))))

-- the most hops that are certified between two nodes, and these
abbrev pub hops_line : Plan → Option MostHops → List ℕ
hops_line plan None = codes "most hops 0\n"
hops_line plan (Some most) = codes "most hops " ++ (decimal most.hops
    ++ (codes " from " ++ (node_name plan most.from ++ (codes " to " ++ (node_name plan most.to ++ codes "\n")))))

-- what is told of a plan that a certificate fits
abbrev pub summary_text : Plan → Option MostHops → List ℕ
summary_text plan most = counts_line plan ++ hops_line plan most
