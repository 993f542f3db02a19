-- What `rollout --write` prints of two plans, and the files that it writes.
use Rattle.std.specs.Prelude.{◌≡◌, ◌⊎◌, ℕ, List, ◌++◌, codes, map, string_bytes}
use Rattle.plan_values.specs.declared.plan.Plan.{Plan}
use Rattle.net_rollout.specs.declared.change.Rollout.{Rollout}
use Rattle.step_files.{specs.StepFiles.{AreFilesOf, FileValue, file_value}, specs.Writes.{Writes, WritesAll, WritesFirst}}
use Rattle.command_answers.{specs.declared.refused.Refused.{Refused}, specs.declared.status.Status.{Status}, specs.Answers.{Stream, GavePlan}, specs.Moves.{ArePlansUnread}}
use Rattle.rollout_commands.{specs.declared.writing.Made.{Made}, specs.Rollouts.{IsRolledOut, RollsOut}}
use Rattle.command_answers.specs.declared.refused.Refused.TheVariants as refused
use Rattle.command_answers.specs.declared.status.Status.TheVariants as status
use Rattle.rollout_commands.specs.declared.writing.Made.TheVariants as made

-- The steps lead to the new plan, the text is their lines, and the files are theirs.
pub record IsRolledOutInto (folder : List ℕ) (before after : Plan) (text : List ℕ)
    (files : List FileValue) : Type 0 where
  pub found : Rollout
  pub told : IsRolledOut before after found status.Yes text
  pub made : AreFilesOf folder before after found files

-- a reason why no file is written though there are steps; nothing more is promised of it
abbrev pub IsNoFilesReason : List ℕ → Type 0
IsNoFilesReason text = (words : List ℕ) × (text ≡ codes "no files: no " ++ (words ++ codes "\n"))

-- the line says why no file is written: there are no steps to the new plan, or another reason
abbrev pub IsNothingWritten : Plan → Plan → List ℕ → Type 0
IsNothingWritten before after text = RollsOut before after status.Fault text ⊎ IsNoFilesReason text

-- what is made of two plans, before anything is written
abbrev pub IsMade : List ℕ → Plan → Plan → Made → Type 0
IsMade folder before after (made.Steps lines files) =
    IsRolledOutInto folder before after (string_bytes lines) (map file_value files.items)
IsMade folder before after (made.Nothing line) = IsNothingWritten before after (string_bytes line)

-- The text answers for the plans, in a run that ends so: where it tells steps to the new plan, their files were
-- written.
abbrev pub RollsOutWith : List ℕ → Writes → Plan → Plan → Status → List ℕ → Type 0
RollsOutWith folder written before after status.Yes text =
    (files : List FileValue) × IsRolledOutInto folder before after text files × WritesAll written files
RollsOutWith folder written before after status.Fault text = IsNothingWritten before after text
RollsOutWith folder written before after status.Unreadable text = ⊥
RollsOutWith folder written before after status.NoMemory text = ⊥

-- so it does of the plans that were given
abbrev pub RollsOutWithSo : List ℕ → Stream → Stream → Writes → Status → List ℕ → Type 0
RollsOutWithSo folder befores afters written ended text = (before : Plan) × (after : Plan)
    × GavePlan befores before × GavePlan afters after × RollsOutWith folder written before after ended text

-- A file of the steps could not be written; those before it were, and no other.
pub record BreaksOffIn (folder : List ℕ) (written : Writes) (before after : Plan) : Type 0 where
  pub text : List ℕ
  pub files : List FileValue
  pub steps : IsRolledOutInto folder before after text files
  pub first : WritesFirst written files

-- why the plans have no answer: memory is wanting, or a file can't be written
abbrev pub IsUnanswered : List ℕ → Writes → Plan → Plan → Refused → Type 0
IsUnanswered folder written before after why =
    (why ≡ refused.NoMemory) ⊎ ((why ≡ refused.Unwritten) × BreaksOffIn folder written before after)

-- so it is of the plans that were given
abbrev pub BreaksOffSo : List ℕ → Stream → Stream → Writes → Type 0
BreaksOffSo folder befores afters written = (before : Plan) × (after : Plan)
    × GavePlan befores before × GavePlan afters after × BreaksOffIn folder written before after

-- why there is no answer: a plan can't be read, or a file can't be written
abbrev pub IsWithoutFiles : List ℕ → Stream → Stream → Writes → Refused → Type 0
IsWithoutFiles folder befores afters written why = ArePlansUnread why befores afters
    ⊎ ((why ≡ refused.Unwritten) × BreaksOffSo folder befores afters written)
