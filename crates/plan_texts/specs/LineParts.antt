-- What several lines have: a node, a bus, an address, endpoint IDs.
use Rattle.std.{specs.Prelude.{◌==◌, ◌+◌, ◌-◌, ◌++◌, ℕ, List, length, Option, Some, None, codes, if◌then◌else◌}, specs.Fmt.{decimal}}
use Rattle.hex.specs.Hex.{encode_lower}
use Rattle.net_tables.specs.Names.{bus_name, node_name}
use Rattle.plan_values.specs.declared.plan.Plan.{Plan}

-- the name of a bus, or a dash where there is none
abbrev pub bus_text : Plan → Option ℕ → List ℕ
bus_text plan (Some bus) = bus_name plan bus
bus_text plan None = codes "-"

-- an address in hex, or a dash where it is empty
abbrev pub address_text : List ℕ → List ℕ
address_text address = if length address == 0 then codes "-" else encode_lower address

-- the name of a node, or a dash where there is none
abbrev pub name_or_none : Plan → Option ℕ → List ℕ
name_or_none plan (Some node) = node_name plan node
name_or_none plan None = codes "-"

-- the endpoint IDs from the first to the last, or the one
abbrev pub from_to : ℕ → ℕ → List ℕ
from_to first last = if first == last then decimal first else decimal first ++ (codes " to " ++ decimal last)

-- so many endpoint IDs from the first on
abbrev pub span_text : ℕ → ℕ → List ℕ
span_text first size = if size == 0 then codes "none" else from_to first (first + size - 1)
