-- Where in the text of a plan a fault stands.
use Rattle.std.{specs.Prelude.{◌≡◌, ℕ, ◌+◌, List, [], ◌∷◌, ◌++◌, take, count_by, codes, unwrap_or, slice_get, Option, Some, None}, specs.Fmt.{decimal}}
use Rattle.json.specs.Json.{Json}
use Rattle.net_plan.{specs.Finding.{Step, key, index}, specs.Texts.{IsTree}, specs.Trees.{data_of}}
use Rattle.plan_values.specs.declared.plan.Plan.{Plan}
use Rattle.net_pointers.{specs.Positions.{is_line_feed, begins_character, last_line}, specs.declared.position.Position.{Position}, specs.declared.spots.Spot.{Spot}}
use Rattle.net_faults.{specs.declared.plan_fault.PlanFault.{PlanFault}, specs.declared.plan_fault.PlanFault.TheVariants.{Broken, Obstacle}}
use Rattle.net_rules.{specs.declared.certify_error.CertifyError.{CertifyError}, specs.declared.fault_run.FaultRun.{FaultRun}, specs.declared.rule.Rule.{Rule}, specs.declared.rule.Rule.TheVariants.{C01, C02, C03, C04, C05, C06, C07, C08, C09, C10, C11, C12, C13, C14, C15, C16}}
use Rattle.explanation_texts.specs.Explanations.{row_for}
use Rattle.reading_texts.{specs.ReadingLines.{pointer_text}, specs.TroubleLines.{IsOffsetOf}}
use Rattle.net_rules.specs.declared.certify_error.CertifyError.TheVariants as error

-- ---- JSON pointers into the text of a plan

abbrev pub node_pointer : ℕ → List Step
node_pointer n = key (codes "nodes") ∷ index n ∷ []

-- what a node says at a key
abbrev pub part_pointer : ℕ → List ℕ → List Step
part_pointer n k = key (codes "nodes") ∷ index n ∷ key k ∷ []

abbrev pub row_pointer : ℕ → ℕ → List Step
row_pointer n r = key (codes "nodes") ∷ index n ∷ key (codes "rows") ∷ index r ∷ []

abbrev pub record_pointer : ℕ → ℕ → List Step
record_pointer n j =
    key (codes "nodes") ∷ index n ∷ key (codes "terminus") ∷ key (codes "records") ∷ index j ∷ []

-- what a rule speaks of at a node itself
abbrev pub own_pointer : Rule → ℕ → List Step
own_pointer C01 n = part_pointer n (codes "name")
own_pointer C02 n = part_pointer n (codes "eid")
own_pointer C03 n = part_pointer n (codes "eid")
own_pointer C04 n = node_pointer n
own_pointer C05 n = node_pointer n
own_pointer C06 n = node_pointer n
own_pointer C07 n = part_pointer n (codes "owner")
own_pointer C08 n = part_pointer n (codes "eid")
own_pointer C09 n = part_pointer n (codes "pool")
own_pointer C10 n = node_pointer n
own_pointer C11 n = node_pointer n
own_pointer C12 n = part_pointer n (codes "terminus")
own_pointer C13 n = node_pointer n
own_pointer C14 n = node_pointer n
own_pointer C15 n = node_pointer n
own_pointer C16 n = node_pointer n

-- the row or the record of which a rule speaks
abbrev pub entry_pointer : Rule → ℕ → ℕ → List Step
entry_pointer C01 n i = row_pointer n i
entry_pointer C02 n i = row_pointer n i
entry_pointer C03 n i = row_pointer n i
entry_pointer C04 n i = row_pointer n i
entry_pointer C05 n i = row_pointer n i
entry_pointer C06 n i = row_pointer n i
entry_pointer C07 n i = row_pointer n i
entry_pointer C08 n i = row_pointer n i
entry_pointer C09 n i = row_pointer n i
entry_pointer C10 n i = row_pointer n i
entry_pointer C11 n i = row_pointer n i
entry_pointer C12 n i = record_pointer n i
entry_pointer C13 n i = record_pointer n i
entry_pointer C14 n i = record_pointer n i
entry_pointer C15 n i = record_pointer n i
entry_pointer C16 n i = row_pointer n i

-- what is at fault, where a rule is broken at a node or at one of its entries
abbrev pub site_pointer : Rule → ℕ → Option ℕ → List Step
site_pointer rule n None = own_pointer rule n
site_pointer rule n (Some i) = entry_pointer rule n i

-- a row, or its node where none is given
abbrev pub way_pointer : ℕ → Option ℕ → List Step
way_pointer n None = node_pointer n
way_pointer n (Some r) = row_pointer n r

-- the first node of a loop
abbrev pub first_of : List ℕ → ℕ
first_of nodes = unwrap_or (slice_get nodes 0) 0

-- What rules certificates out: the site of a fault; of a loop the first node's owner, or its row for the endpoint ID;
-- the record at which a chain goes wrong.
abbrev pub obstacle_pointer : Plan → CertifyError → List Step
obstacle_pointer plan (error.Fault fault) = site_pointer fault.rule fault.node fault.entry
obstacle_pointer plan (error.OwnerLoop nodes) = part_pointer (first_of nodes.items) (codes "owner")
obstacle_pointer plan (error.Loop eid nodes) =
    way_pointer (first_of nodes.items) (row_for plan eid.value (first_of nodes.items)).index
obstacle_pointer plan (error.BadChain node kind entry) = record_pointer node entry
obstacle_pointer plan error.OutOfMemory = []

-- what is at fault at the sites of a run
abbrev pub run_pointer : FaultRun → List Step
run_pointer run = site_pointer run.rule run.node run.entry

-- what one of all faults speaks of
abbrev pub plan_fault_pointer : Plan → PlanFault → List Step
plan_fault_pointer plan (Broken run) = run_pointer run
plan_fault_pointer plan (Obstacle obstacle more) = obstacle_pointer plan obstacle

-- ---- places

-- The offset is that to which the pointer leads in the text; there is none where it leads to no value.
abbrev pub IsPlaceIn : List ℕ → List Step → Option ℕ → Type 0
IsPlaceIn text pointer o = (j : Json) × IsTree text j × IsOffsetOf text (data_of j) pointer o

-- the file, the line and the column, as editors take them
abbrev pub position_text : List ℕ → Position → List ℕ
position_text name position = name ++ (codes ":" ++ (decimal position.line ++ (codes ":" ++ decimal position.column)))

-- that of an offset
abbrev pub place_text : List ℕ → List ℕ → ℕ → List ℕ
place_text name text offset = position_text name (record {
  line = count_by is_line_feed (take offset text) + 1;
  column = count_by begins_character (last_line (take offset text)) + 1;
})

-- that of a spot behind a line, where it is known
abbrev pub spot_words : List ℕ → Option Spot → List ℕ
spot_words name (Some spot) = codes " at " ++ position_text name spot.position
spot_words name None = []

-- the same behind a line
abbrev pub at_text : List ℕ → List ℕ → Option ℕ → List ℕ
at_text name text (Some offset) = codes " at " ++ place_text name text offset
at_text name text None = []

-- the words that tell behind a line where in the text of this name the pointer leads
abbrev pub IsAtTold : List ℕ → List ℕ → List Step → List ℕ → Type 0
IsAtTold name text pointer words = (o : Option ℕ) × IsPlaceIn text pointer o × (words ≡ at_text name text o)

-- the place in a line of its own, with the pointer
abbrev pub place_line : List ℕ → List ℕ → List Step → Option ℕ → List ℕ
place_line name text pointer (Some offset) =
    place_text name text offset ++ (codes ": " ++ (pointer_text pointer ++ codes "\n"))
place_line name text pointer None = []

-- the line that tells where in the text of this name the pointer leads
abbrev pub IsPlaceTold : List ℕ → List ℕ → List Step → List ℕ → Type 0
IsPlaceTold name text pointer line =
    (o : Option ℕ) × IsPlaceIn text pointer o × (line ≡ place_line name text pointer o)
