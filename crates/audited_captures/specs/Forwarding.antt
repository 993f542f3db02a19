-- What it means that a bridge's routing table, as it was read, forwards as the plan's rows do.
use Rattle.std.specs.Prelude.{◌≡◌, ℕ, ◌+◌, ◌<◌, ◌≤◌, Bool, List, [], Option, Some, map, slice_get}
use Rattle.mctp_routing.{specs.Rows.{Routes}, specs.declared.row.Hop.{Hop}}
use Rattle.mctp_control.specs.RouteEntries.{EntryValue}
use Rattle.plan_values.{specs.declared.certificate.Certificate.{Certificate}, specs.declared.nodes.Node.{Node}, specs.declared.plan.Plan.{Plan}}
use Rattle.net_rules.specs.Rules.{Accepts}
use Rattle.net_tables.{specs.Routing.{rows_of}, specs.Tables.{table_row}}
use Rattle.plan_exports.{specs.Neighbors.{neighbor_of}, specs.TableAnswers.{AreEntriesOf}}
use Rattle.audited_captures.{specs.AsPlanned.{IsAmong}, specs.Audits.{AreAudited}, specs.Counting.{difference_count}, specs.Lines.{LineValue}, specs.Readings.{ReadingValue, Read, parts_of, readings}, specs.Routes.{unlike_lines}, specs.declared.sums.Sum.{Sum}}
use Rattle.bus_captures.specs.Values as captured

-- e is one of the entry's endpoint IDs; an entry that reaches past 255 covers those up to 255
abbrev pub IsFor : ℕ → EntryValue → Type 0
IsFor e f = (f.first ≤ e) × (e < f.first + f.size) × (e ≤ 255)

-- The entry leads on as a hop of n does: through its port, over a bus with these identifiers, to the address that the
-- next node has there.
pub record LeadsAs (plan : Plan) (n : ℕ) (hop : Hop) (f : EntryValue) : Type 0 where
  pub port : f.port ≡ hop.port
  pub binding : f.binding ≡ (neighbor_of plan n hop).binding
  pub media : f.media ≡ (neighbor_of plan n hop).media
  pub address : f.address ≡ (neighbor_of plan n hop).address

-- The entries forward as the rows of n do: for each endpoint ID that a row covers there is an entry, each entry for it
-- leads on as that row does, and there is none for an endpoint ID that no row covers.
pub record ForwardsAs (plan : Plan) (n : ℕ) (found : List EntryValue) : Type 0 where
  pub on : (e : ℕ) (hop : Hop) → Routes (map table_row (rows_of plan n)) e hop
      → (f : EntryValue) × IsAmong f found × IsFor e f
  pub same : (e : ℕ) (hop : Hop) (f : EntryValue) → Routes (map table_row (rows_of plan n)) e hop → IsAmong f found
      → IsFor e f → LeadsAs plan n hop f
  pub only : (e : ℕ) (f : EntryValue) → IsAmong f found → IsFor e f
      → (hop : Hop) × Routes (map table_row (rows_of plan n)) e hop

-- a routing table that was read with no line of a difference forwards as the rows of an accepted plan do
abbrev pub TablesForward : Type 0
TablesForward = (plan : Plan) (cert : Certificate) (n : ℕ) (name : List ℕ) (planned found : List EntryValue)
    → Accepts plan cert → AreEntriesOf plan n planned → unlike_lines name planned found ≡ []
    → ForwardsAs plan n found

-- where an audit matches, so does each routing table that a node told
abbrev pub AuditsForward : Type 0
AuditsForward = (plan : Plan) (cert : Certificate) (bus : Option ℕ) (complete : Bool)
    (entries : List captured.EntryValue) (lines : List LineValue) (sum : Sum) → Accepts plan cert
    → (are : AreAudited plan cert bus complete entries lines sum)
    → difference_count lines ≡ 0 → (n : ℕ) (node : Node) → slice_get plan.nodes.items n ≡ Some node
    → (r : ReadingValue)
    → IsAmong r (readings (parts_of node.eid.value are.beside.heard.exchanges))
    → (found : List EntryValue) × (r ≡ Read found) × ForwardsAs plan n found
