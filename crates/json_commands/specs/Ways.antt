-- What `reach` and `trace` answer.
use Rattle.std.specs.Prelude.{◌≡◌, ◌≤◌, ℕ, List, codes, length}
use Rattle.mctp_routing.specs.Decisions.{forward_fault_code}
use Rattle.mctp_transport.specs.declared.address.Eid.{Eid}
use Rattle.serde_json.specs.Data.{Data, null, string, object, member, no_members}
use Rattle.net_plan.specs.Finding.{Step}
use Rattle.plan_values.{specs.declared.certificate.Certificate.{Certificate}, specs.declared.plan.Plan.{Plan}}
use Rattle.net_questions.{specs.declared.pair.Pair.{Pair}, specs.declared.step.WayStep.{WayStep}, specs.declared.way.End.{End}, specs.declared.way.End.TheVariants.{Arrives, Stops}, specs.Reaching.{ArePairs}, specs.Ways.{IsWay}}
use Rattle.net_tables.{specs.Names.{node_name}, specs.Ranks.{rank}}
use Rattle.explanation_texts.specs.Explanations.{row_for}
use Rattle.fault_texts.specs.Places.{way_pointer}
use Rattle.command_questions.{specs.declared.form.Form.{Form}, specs.declared.form.Form.TheVariants.{Json}}
use Rattle.json_commands.{specs.Answers.{IsAnswer}, specs.Places.{IsPlaceTold}, specs.Values.{Has, IsListTold, empty_data, number_data, number_or_null}}
use Rattle.command_answers.specs.declared.status.Status.TheVariants as status

abbrev pub node_data : Plan → ℕ → Data
node_data plan n = object (member (codes "index") (number_data n)
    (member (codes "name") (string (node_name plan n)) no_members))

-- the value answers with this list of pairs, or with this way, and with nothing that is wrong
abbrev pub IsFound : (name : List ℕ) → (found d : Data) → Type 0
IsFound name found d = IsAnswer Json status.Yes empty_data d × Has name found d

-- ---- who reaches whom

-- two nodes, and the hops from the one to the other, or null
abbrev pub pair_data : Plan → Pair → Data
pair_data plan pair = object (member (codes "from") (node_data plan pair.from)
    (member (codes "hops") (number_or_null pair.there) (member (codes "to") (node_data plan pair.to) no_members)))

-- the value tells each two different nodes of the plan, with the hops between them
abbrev pub IsReachSaid : Plan → Certificate → Data → Type 0
IsReachSaid plan certificate d = (pairs : List Pair) × (told : Data) × ArePairs plan certificate pairs
    × IsListTold (λ pair d. d ≡ pair_data plan pair) pairs told × IsFound (codes "pairs") told d

-- ---- the way of a packet

-- a step: the node, the place of its row, the port and the next node
abbrev pub step_data : Plan → WayStep → Data → Data
step_data plan step place = object (member (codes "next") (node_data plan step.hop.next)
    (member (codes "node") (node_data plan step.node) (member (codes "place") place
    (member (codes "port") (number_data step.hop.port) no_members))))

-- the first of a node's rows for the endpoint ID, or the node where it has none
abbrev pub hop_pointer : Plan → Eid → ℕ → List Step
hop_pointer plan eid n = way_pointer n (row_for plan eid.value n).index

-- The value tells a step of the way of a packet for the endpoint ID, with where the first row for it stands in the text
-- of this name.
abbrev pub IsStepTold : Form → (name text : List ℕ) → Plan → Eid → WayStep → Data → Type 0
IsStepTold form name text plan eid step d = (place : Data)
    × IsPlaceTold form name text (hop_pointer plan eid step.node) place × (d ≡ step_data plan step place)

-- why a way stops, or null where the packet arrives
abbrev pub stop_data : End → Data
stop_data Arrives = null
stop_data (Stops why) = string (forward_fault_code why)

abbrev pub way_data : Plan → ℕ → Data → ℕ → End → Data
way_data plan e steps last end = object (member (codes "eid") (number_data e)
    (member (codes "last") (node_data plan last) (member (codes "steps") steps
    (member (codes "stops") (stop_data end) no_members))))

-- the value tells these steps of a way for the endpoint ID, where it ends and why
abbrev pub IsWayTold : (name text : List ℕ) → Plan → Eid → List WayStep → ℕ → End → Data → Type 0
IsWayTold name text plan eid steps last end d = (told : Data)
    × IsListTold (IsStepTold Json name text plan eid) steps told
    × IsFound (codes "way") (way_data plan eid.value told last end) d

-- The value tells the way of a packet for the endpoint ID that is put in at n. It has no more hops than the certified
-- rank.
abbrev pub IsTraceSaid : (name text : List ℕ) → Plan → Certificate → ℕ → Eid → Data → Type 0
IsTraceSaid name text plan certificate n eid d = (steps : List WayStep) × (last : ℕ) × (end : End)
    × IsWay plan eid.value n steps last end × (length steps ≤ rank certificate n eid.value)
    × IsWayTold name text plan eid steps last end d
