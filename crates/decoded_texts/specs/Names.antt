-- The names of nodes behind a packet.
use Rattle.std.{specs.Prelude.{ℕ, ◌==◌, List, [], ◌++◌, codes, Option, Some, None, if◌then◌else◌}, specs.List.{flat_map}}
use Rattle.mctp_transport.specs.PacketValues.{PacketValue}
use Rattle.plan_values.{specs.NodeValues.{name_bytes}, specs.declared.nodes.Node.{Node}, specs.declared.plan.Plan.{Plan}}

-- behind these words the name of a node that holds the endpoint ID
abbrev pub holder_words : List ℕ → ℕ → Node → List ℕ
holder_words words e node = if node.eid.value == e then words ++ name_bytes node.name else []

-- of all nodes that hold it; nothing where nobody does
abbrev pub end_words : Plan → List ℕ → ℕ → List ℕ
end_words plan words e = flat_map (holder_words words e) plan.nodes.items

-- who holds the source and the destination of a packet, by a plan; without a plan nothing is told
abbrev pub names_of : Option Plan → PacketValue → List ℕ
names_of None p = []
names_of (Some plan) p =
    end_words plan (codes " from ") p.source ++ end_words plan (codes " to ") p.destination
