-- What nodes didn't tell of what the plan has of them.
use Rattle.std.{specs.Prelude.{ℕ, ◌==◌, ◌||◌, Bool, not, true, false, List, [], ◌∷◌, ◌++◌, codes, Option, None, Some, if◌then◌else◌}, specs.List.{list_any}}
use Rattle.plan_values.{specs.NodeValues.{name_bytes}, specs.declared.nodes.Kind.{Kind}, specs.declared.nodes.Node.{Node}, specs.declared.terminus.PlannedTerminus.{PlannedTerminus}}
use Rattle.audited_captures.{specs.Exchanges.{ExchangeValue}, specs.Identities.{answers_of, tells_eid, tells_pool, size_of}, specs.Lines.{LineValue, difference}, specs.Readings.{PartValue, ReadingValue, Read, Refused, Unended, begun_with, parts_of, readings}, specs.RecordLines.{missing_count}, specs.declared.record_readings.Verdict.{Verdict}}
use Rattle.plan_values.specs.declared.nodes.Kind.TheVariants as kind

abbrev pub is_bridge : Kind → Bool
is_bridge kind.Endpoint = false
is_bridge kind.Bridge = true

abbrev pub is_some : Option PlannedTerminus → Bool
is_some None = false
is_some (Some terminus) = true

-- a reading came to its end
abbrev pub is_read : ReadingValue → Bool
is_read (Read entries) = true
is_read Refused = false
is_read Unended = false

-- the readings that begin with the first of these parts
abbrev pub readings_begun : List PartValue → List ReadingValue
readings_begun [] = []
readings_begun (p ∷ ps) = begun_with p ps

abbrev pub untold_text : (name what : List ℕ) → List ℕ
untold_text name what = name ++ (codes " " ++ (what ++ codes " not told"))

abbrev pub untold_if : (told : Bool) → List ℕ → List LineValue
untold_if told text = if told then [] else difference text ∷ []

-- a node tells its endpoint ID, a bridge its routing table to the end, what has a planned pool tells one, and what has
-- a planned terminus each of its records to its end
abbrev pub tells_routes : Node → List ExchangeValue → Bool
tells_routes node xs = not (is_bridge node.kind) || list_any is_read (readings (parts_of node.eid.value xs))

abbrev pub tells_its_pool : Node → List ExchangeValue → Bool
tells_its_pool node xs = size_of node.pool == 0 || list_any tells_pool (answers_of node.eid.value xs)

abbrev pub tells_records : Node → (records : ℕ) → List Verdict → Bool
tells_records node records verdicts = not (is_some node.terminus) || missing_count verdicts records == 0

-- a line for each of these that it didn't tell
abbrev pub untold_lines : Node → List ExchangeValue → (records : ℕ) → List Verdict → List LineValue
untold_lines node xs records verdicts =
    untold_if (list_any tells_eid (answers_of node.eid.value xs)) (untold_text (name_bytes node.name) (codes "eid"))
    ++ (untold_if (tells_routes node xs) (untold_text (name_bytes node.name) (codes "routes"))
    ++ (untold_if (tells_its_pool node xs) (untold_text (name_bytes node.name) (codes "pool"))
    ++ untold_if (tells_records node records verdicts) (untold_text (name_bytes node.name) (codes "records"))))

-- the lines that are wanted
abbrev pub wanted_lines : (complete : Bool) → List LineValue → List LineValue
wanted_lines complete untold = if complete then untold else []
