-- What the end of `verify` says of a folder.
use Rattle.std.{specs.Prelude.{◌≡◌, ◌⊎◌, ◌<◌, ℕ, Bool, List, [], ◌∷◌, ◌++◌, codes, map, All, Option, Some, None, Result, Ok}, specs.Io.KnownBytes.{Appends}, specs.Cow.{cow_str_bytes}}
use Rattle.plan_values.specs.declared.plan.Plan.{Plan}
use Rattle.net_plan.specs.declared.stream.TextFault.{TextFault}
use Rattle.command_answers.{specs.declared.answer.Answer.{Answer}, specs.declared.status.Status.{Status}, specs.Answers.{Stream, BreaksOff}}
use Rattle.verify_commands.{specs.declared.parts.Judged.{Judged}, specs.Folders.{IsPlanTextHeld, Reading}, specs.Parts.{IsJudged}, specs.Reports.{failed_count, name_of, report_text, run_name}, specs.Runs.{AreRuns}}
use Rattle.command_answers.specs.declared.status.Status.TheVariants as status

-- the name of a part that there is where there is its text
abbrev pub name_if : List ℕ → Option (List ℕ) → List (List ℕ)
name_if name None = []
name_if name (Some bytes) = name ∷ []

-- the names of the parts that a folder has, in their order
abbrev pub part_names : (board wanted : Option (List ℕ)) (runs : List (List ℕ)) → List (List ℕ)
part_names board wanted runs = name_if (codes "board") board
    ++ (codes "check" ∷ codes "faults" ∷ codes "lint" ∷ (name_if (codes "require") wanted ++ map run_name runs))

-- The folder has a plan, and these are all its parts, in their order, each judged as it is.
pub record Judges (Reads : List ℕ → Reading → Type 0) (Lists : Result (List (List ℕ)) TextFault → Type 0)
    (Records : List ℕ → List ℕ → Type 0) (is_strict : Bool) (told : List Judged) : Type 0 where
  pub text : List ℕ
  pub plan : Plan
  pub board : Option (List ℕ)
  pub wanted : Option (List ℕ)
  pub files : List (List ℕ)
  pub runs : List (List ℕ)
  pub held : IsPlanTextHeld Reads text plan
  pub has_board : Reads (codes "board.toml") (Ok board)
  pub has_wanted : Reads (codes "wanted.txt") (Ok wanted)
  pub has_files : Lists (Ok files)
  pub are_runs : AreRuns files runs
  pub all : map (λ (judged : Judged). name_of judged.part) told ≡ part_names board wanted runs
  pub are_so : All (IsJudged Reads Records is_strict text plan) told

-- the answer tells all parts, and ends with 0 exactly where none fails
abbrev pub IsReport : List Judged → Answer → Type 0
IsReport told answer = (cow_str_bytes answer.text ≡ report_text told)
    × (((answer.status ≡ status.Yes) × (failed_count told ≡ 0))
    ⊎ ((answer.status ≡ status.Fault) × (0 < failed_count told)))

-- all parts were told
abbrev pub Tells : List Judged → Stream → Type 0
Tells told output = Appends output.before.bytes output.after.bytes (report_text told)

-- what the end of a run says of a folder whose parts are judged so, or of which something can't be read, and of what
-- was written
abbrev pub EndsVerifying : (IsSo : List Judged → Type 0) (unread untouched : Type 0) → Status → Stream → Type 0
EndsVerifying IsSo unread untouched status.Yes output =
    (told : List Judged) × IsSo told × (failed_count told ≡ 0) × Tells told output
EndsVerifying IsSo unread untouched status.Fault output =
    (told : List Judged) × IsSo told × (0 < failed_count told) × Tells told output
EndsVerifying IsSo unread untouched status.Unreadable output = (unread × untouched)
    ⊎ BreaksOff (λ text. (told : List Judged) × IsSo told × (text ≡ report_text told)) output
EndsVerifying IsSo unread untouched status.NoMemory output = untouched
