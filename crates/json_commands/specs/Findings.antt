-- What `lint` answers.
use Rattle.std.specs.Prelude.{◌≡◌, ℕ, List, [], ◌∷◌, ◌++◌, codes}
use Rattle.serde_json.specs.Data.{Data}
use Rattle.net_plan.specs.Finding.{Step, key, index}
use Rattle.plan_values.specs.declared.plan.Plan.{Plan}
use Rattle.net_questions.{specs.declared.finding.Finding.{Finding}, specs.declared.finding.Finding.TheVariants.{SharedAddress, MissingAddress, SharedTid, MissingLocator, SharedSensorId, OwnerHasNoWay, NoWayToOwner, IdleRow, PoolEidNotLedOn, LonePort, EmptyReadableRange, Isolated, ForeignMedia, ReservedBinding, ReservedAddress, EmptyBus, CrossedThresholds, UnknownTerminusHandle, UncontainedEntity, OddAddress, ForeignLength, UncarriedUnit, SharedSevenBits}, specs.Findings.{AreFindings}}
use Rattle.command_answers.specs.declared.status.Status.{Status}
use Rattle.fault_texts.specs.Places.{part_pointer, record_pointer, row_pointer}
use Rattle.command_questions.{specs.declared.form.Form.{Form}, specs.declared.form.Form.TheVariants.{Json}}
use Rattle.json_commands.{specs.Answers.{IsAnswer, IsItemAt}, specs.Values.{IsListTold}}
use Rattle.command_answers.specs.declared.status.Status.TheVariants as status

abbrev pub code_of : Finding → List ℕ
code_of (SharedAddress n p m q) = codes "H01"
code_of (MissingAddress n p) = codes "H02"
code_of (SharedTid n m) = codes "H03"
code_of (MissingLocator n) = codes "H04"
code_of (SharedSensorId n j) = codes "H05"
code_of (OwnerHasNoWay n m) = codes "H06"
code_of (NoWayToOwner n m) = codes "H07"
code_of (IdleRow n r) = codes "H08"
code_of (PoolEidNotLedOn n eid) = codes "H09"
code_of (LonePort n p) = codes "H10"
code_of (EmptyReadableRange n j) = codes "H11"
code_of (Isolated n) = codes "H12"
code_of (ForeignMedia b) = codes "H13"
code_of (ReservedBinding b) = codes "H14"
code_of (ReservedAddress n p) = codes "H15"
code_of (EmptyBus b) = codes "H16"
code_of (CrossedThresholds n j) = codes "H17"
code_of (UnknownTerminusHandle n j) = codes "H18"
code_of (UncontainedEntity n j) = codes "H19"
code_of (OddAddress n p) = codes "H20"
code_of (ForeignLength n p) = codes "H21"
code_of (UncarriedUnit b) = codes "H22"
code_of (SharedSevenBits n p m q) = codes "H23"

abbrev pub bus_pointer : ℕ → List Step
bus_pointer b = key (codes "buses") ∷ index b ∷ []

abbrev pub port_pointer : ℕ → ℕ → List Step
port_pointer n p = key (codes "nodes") ∷ index n ∷ key (codes "ports") ∷ index p ∷ []

abbrev pub address_pointer : ℕ → ℕ → List Step
address_pointer n p = port_pointer n p ++ key (codes "address") ∷ []

-- what looks wrong
abbrev pub finding_pointer : Finding → List Step
finding_pointer (SharedAddress n p m q) = address_pointer n p
finding_pointer (MissingAddress n p) = address_pointer n p
finding_pointer (SharedTid n m) = part_pointer n (codes "terminus")
finding_pointer (MissingLocator n) = part_pointer n (codes "terminus")
finding_pointer (SharedSensorId n j) = record_pointer n j
finding_pointer (OwnerHasNoWay n m) = part_pointer n (codes "owner")
finding_pointer (NoWayToOwner n m) = part_pointer n (codes "rows")
finding_pointer (IdleRow n r) = row_pointer n r
finding_pointer (PoolEidNotLedOn n eid) = part_pointer n (codes "pool")
finding_pointer (LonePort n p) = port_pointer n p
finding_pointer (EmptyReadableRange n j) = record_pointer n j
finding_pointer (Isolated n) = part_pointer n (codes "rows")
finding_pointer (ForeignMedia b) = bus_pointer b
finding_pointer (ReservedBinding b) = bus_pointer b
finding_pointer (ReservedAddress n p) = address_pointer n p
finding_pointer (EmptyBus b) = bus_pointer b
finding_pointer (CrossedThresholds n j) = record_pointer n j
finding_pointer (UnknownTerminusHandle n j) = record_pointer n j
finding_pointer (UncontainedEntity n j) = record_pointer n j
finding_pointer (OddAddress n p) = address_pointer n p
finding_pointer (ForeignLength n p) = address_pointer n p
finding_pointer (UncarriedUnit b) = bus_pointer b
finding_pointer (SharedSevenBits n p m q) = address_pointer n p

-- the value is the result of a finding in the plan that stands in the text of this name
abbrev pub IsFindingItem : Form → (name text : List ℕ) → Finding → Data → Type 0
IsFindingItem form name text f d = IsItemAt form name text (code_of f) (finding_pointer f) d

-- how a run ends that tells such findings
abbrev pub status_of : List Finding → Status
status_of [] = status.Yes
status_of (f ∷ fs) = status.Fault

-- The value tells all that looks wrong in the plan, which stands in the text of this name, each thing once, in a run
-- that ends so.
abbrev pub IsLintSaid : (name text : List ℕ) → Plan → Status → Data → Type 0
IsLintSaid name text plan ended d = (findings : List Finding) × (results : Data) × AreFindings plan findings
    × (ended ≡ status_of findings) × IsListTold (IsFindingItem Json name text) findings results
    × IsAnswer Json ended results d
