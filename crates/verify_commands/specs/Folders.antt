-- What reading the files of a folder gives, and what of them can't be read.
use Rattle.std.specs.Prelude.{◌≡◌, ◌≢◌, ◌⊎◌, ℕ, List, ◌++◌, codes, Option, Some, None, Result, Ok, Err, IsUtf8, ⊤}
use Rattle.plan_values.{specs.declared.plan.Plan.{Plan}, specs.PlanValues.{node_names, plan_value}}
use Rattle.net_plan.{specs.CertificateReading.{certificate}, specs.CertificateText.{IsCertificateOf}, specs.EventReading.{events}, specs.EventText.{AreEventsOf}, specs.PlanReading.{plan}, specs.PlanText.{IsPlanOf}, specs.Refusals.{IsRefused}, specs.declared.error.PlanError.{PlanError}, specs.declared.stream.TextFault.{TextFault}}
use Rattle.net_reached.{specs.declared.reading.BadLine.{BadLine}, specs.declared.reading.WishError.TheVariants.{Unread}, specs.Reading.{IsWhyUnread}}
use Rattle.command_answers.specs.UnreadInputs.{IsTextOf}
use Rattle.verify_commands.{specs.declared.folder.FolderText.{FolderText}, specs.declared.unjudged.Unjudged.{Unjudged}}
use Rattle.net_plan.specs.declared.error.PlanError.TheVariants as error
use Rattle.net_plan.specs.declared.stream.TextFault.TheVariants as fault
use Rattle.verify_commands.specs.declared.folder.FolderText.TheVariants as text
use Rattle.verify_commands.specs.declared.unjudged.Unjudged.TheVariants as unjudged

-- what reading a file gives: its bytes, nothing where there is no such file, or why it can't be read
abbrev pub Reading : Type 0
Reading = Result (Option (List ℕ)) TextFault

-- ---- the texts of a folder

abbrev pub events_path : List ℕ → List ℕ
events_path name = codes "runs/" ++ (name ++ codes ".json")

abbrev pub lines_path : List ℕ → List ℕ
lines_path name = codes "runs/" ++ (name ++ codes ".txt")

-- where a text stands in the folder
abbrev pub path_of : FolderText → List ℕ
path_of text.Board = codes "board.toml"
path_of text.Plan = codes "plan.json"
path_of text.Certificate = codes "certificate.json"
path_of text.Wanted = codes "wanted.txt"
path_of (text.Events name) = events_path name.now
path_of (text.Lines name) = lines_path name.now

-- what the program calls it
abbrev pub role_of : FolderText → List ℕ
role_of text.Board = codes "board"
role_of text.Plan = codes "plan"
role_of text.Certificate = codes "certificate"
role_of text.Wanted = codes "wanted"
role_of (text.Events name) = codes "events"
role_of (text.Lines name) = codes "lines"

-- the folder must have it: the plan, and both files of a run
abbrev pub IsNeeded : FolderText → Type 0
IsNeeded text.Board = ⊥
IsNeeded text.Plan = ⊤
IsNeeded text.Certificate = ⊥
IsNeeded text.Wanted = ⊥
IsNeeded (text.Events name) = ⊤
IsNeeded (text.Lines name) = ⊤

-- ---- what can't be read

-- a fault by which there is nothing to read; want of memory is none
abbrev pub IsCause : TextFault → Type 0
IsCause why = why ≢ fault.OutOfMemory

-- an error by which a text is none of its sort; want of memory is none
abbrev pub IsFault : PlanError → Type 0
IsFault why = why ≢ error.OutOfMemory

-- the text that says the wishes for ways is no text, or has a line that says none
abbrev pub HasNoWishes : Plan → List ℕ → Type 0
HasNoWishes p bytes = (¬ IsUtf8 bytes) ⊎ ((bad : BadLine) × IsWhyUnread p bytes (Unread bad))

-- the bytes are no certificate of the plan
abbrev pub IsNoCertificate : Plan → List ℕ → Type 0
IsNoCertificate p bytes = (why : PlanError) × IsFault why
    × IsRefused (certificate (node_names (plan_value p).nodes)) (IsCertificateOf (plan_value p)) bytes why

-- they are no events at its nodes
abbrev pub AreNoEvents : Plan → List ℕ → Type 0
AreNoEvents p bytes = (why : PlanError) × IsFault why
    × IsRefused (events (node_names (plan_value p).nodes)) (AreEventsOf (plan_value p)) bytes why

-- they are no plan
abbrev pub IsNoPlan : List ℕ → Type 0
IsNoPlan bytes = (why : PlanError) × IsFault why × IsRefused plan IsPlanOf bytes why

-- the folder has the text of the plan
abbrev pub IsPlanTextHeld : (List ℕ → Reading → Type 0) → List ℕ → Plan → Type 0
IsPlanTextHeld Reads bytes p = Reads (codes "plan.json") (Ok (Some bytes)) × IsTextOf bytes p

abbrev pub IsPlanHeld : (List ℕ → Reading → Type 0) → Plan → Type 0
IsPlanHeld Reads p = (bytes : List ℕ) × IsPlanTextHeld Reads bytes p

-- what the folder has is no text of this sort. Of a board nothing more is promised.
abbrev pub IsNoText : (List ℕ → Reading → Type 0) → FolderText → List ℕ → Type 0
IsNoText Reads text.Board bytes = ⊤
IsNoText Reads text.Plan bytes = IsNoPlan bytes
IsNoText Reads text.Certificate bytes = (p : Plan) × IsPlanHeld Reads p × IsNoCertificate p bytes
IsNoText Reads text.Wanted bytes = (p : Plan) × IsPlanHeld Reads p × HasNoWishes p bytes
IsNoText Reads (text.Events name) bytes = (p : Plan) × IsPlanHeld Reads p × AreNoEvents p bytes
IsNoText Reads (text.Lines name) bytes = ¬ IsUtf8 bytes

-- a text can't be read: its file can't be, or there is none of a text that the folder must have, or it is no text of
-- this sort
abbrev pub IsUnread : (List ℕ → Reading → Type 0) → FolderText → Type 0
IsUnread Reads it = ((why : TextFault) × IsCause why × Reads (path_of it) (Err why))
    ⊎ ((IsNeeded it × Reads (path_of it) (Ok None))
    ⊎ ((bytes : List ℕ) × Reads (path_of it) (Ok (Some bytes)) × IsNoText Reads it bytes))

-- a text of the folder can't be read, or the files of its runs can't be listed
abbrev pub CantBeRead : (List ℕ → Reading → Type 0) → (Result (List (List ℕ)) TextFault → Type 0) → Type 0
CantBeRead Reads Lists = ((it : FolderText) × IsUnread Reads it)
    ⊎ ((why : TextFault) × IsCause why × Lists (Err why))

-- why a folder is not judged: memory is wanting, or something can't be read
abbrev pub IsUnjudged : (List ℕ → Reading → Type 0) → (Result (List (List ℕ)) TextFault → Type 0) → Unjudged → Type 0
IsUnjudged Reads Lists why = (why ≡ unjudged.NoMemory) ⊎ CantBeRead Reads Lists
