-- What the end of `make` says where it keeps the numbers of an old plan, or writes files.
use Rattle.std.{specs.Prelude.{◌≡◌, ◌⊎◌, ℕ, List, [], ◌∷◌, ◌++◌, Option, Some, None}, specs.Io.KnownBytes.{Appends}, specs.Borrow.{Bor}}
use Rattle.net_plan.{specs.Stream.{AppendsBeginning}, specs.Texts.{Gave}, specs.Limits.{most_text_bytes}}
use Rattle.plan_values.specs.declared.plan.Plan.{Plan}
use Rattle.step_files.{specs.StepFiles.{FileValue}, specs.Writes.{Writes, WritesAll}}
use Rattle.board_made.{specs.Renumbering.{kept_line, renumbered_lines}, specs.Made.{IsUnreadLine}}
use Rattle.command_questions.specs.declared.make_files.MakeFiles.{MakeFiles}
use Rattle.command_answers.{specs.declared.refused.Refused.{Refused}, specs.declared.status.Status.{Status}, specs.Answers.{Stream, Fails}, specs.UnreadInputs.{IsTextOf}}
use Rattle.plan_commands.specs.Making.{IsMadeBy, IsUnmadeBy, IsWithoutBoard}
use Rattle.command_answers.specs.declared.refused.Refused.TheVariants as refused
use Rattle.command_answers.specs.declared.status.Status.TheVariants as status

-- a file with the text where there is a path for it
abbrev pub file_at : Option (Bor (List ℕ)) → List ℕ → List FileValue
file_at None text = []
file_at (Some path) text = record { path = path.now; text = text } ∷ []

-- the files that are written, the plan's first
abbrev pub made_files : MakeFiles → List ℕ → List ℕ → List FileValue
made_files wanted text certified = file_at wanted.plan text ++ file_at wanted.certificate certified

-- the lines of the numbers that differ from those of an old plan, if there is one
abbrev pub changes_text : Option Plan → Plan → List ℕ
changes_text None new = []
changes_text (Some old) new = renumbered_lines old new

-- and the line that counts those that are the same
abbrev pub kept_text : Option Plan → Plan → List ℕ
kept_text None new = []
kept_text (Some old) new = kept_line old new

-- what is printed: the plan, or that line where the plan is written to a file
abbrev pub printed_of : Option (Bor (List ℕ)) → Option Plan → Plan → List ℕ → List ℕ
printed_of None old new text = text
printed_of (Some path) old new text = kept_text old new

-- what is said beside it
abbrev pub notes_of : Option (Bor (List ℕ)) → Option Plan → Plan → List ℕ
notes_of None old new = changes_text old new ++ kept_text old new
notes_of (Some path) old new = changes_text old new

-- A plan was made of the board, and written with its certificate to the files that are wanted; the texts are what is
-- printed and what is said of its numbers.
pub record IsKept (wanted : MakeFiles) (old : Option Plan) (Holds : List ℕ → List ℕ → Type 0) (written : Writes)
    (board text notes : List ℕ) : Type 0 where
  pub plan_text : List ℕ
  pub certified : List ℕ
  pub plan : Plan
  pub made : IsMadeBy Holds board plan_text certified
  pub reads : IsTextOf plan_text plan
  pub wrote : WritesAll written (made_files wanted plan_text certified)
  pub printed : text ≡ printed_of wanted.plan old plan plan_text
  pub noted : notes ≡ notes_of wanted.plan old plan

-- the texts answer for a board, in a run that ends so
abbrev pub IsAnsweredOn : MakeFiles → Option Plan → (List ℕ → List ℕ → Type 0) → Writes → List ℕ → Status → List ℕ
    → List ℕ → Type 0
IsAnsweredOn wanted old Holds written board status.Yes text notes = IsKept wanted old Holds written board text notes
IsAnsweredOn wanted old Holds written board status.Fault text notes = IsUnmadeBy Holds board text
IsAnsweredOn wanted old Holds written board status.Unreadable text notes = IsUnreadLine text
IsAnsweredOn wanted old Holds written board status.NoMemory text notes = ⊥

-- the same of the board that a source gave, or why it gave none
abbrev pub IsAnsweredSo : MakeFiles → Option Plan → (List ℕ → List ℕ → Type 0) → Stream → Writes → Status → List ℕ
    → List ℕ → Type 0
IsAnsweredSo wanted old Holds boards written ended text notes =
    Gave most_text_bytes boards.before.bytes boards.after.bytes
    (λ bytes. IsAnsweredOn wanted old Holds written bytes ended text notes)
    ⊎ ((ended ≡ status.Unreadable) × IsWithoutBoard boards text)

-- whatever is said beside it
abbrev pub KeepsSo : MakeFiles → Option Plan → (List ℕ → List ℕ → Type 0) → Stream → Writes → Status → List ℕ → Type 0
KeepsSo wanted old Holds boards written ended text =
    (notes : List ℕ) × IsAnsweredSo wanted old Holds boards written ended text notes

-- the text was said, whole, or a beginning of it where the stream failed
abbrev pub IsNoteSaid : Stream → List ℕ → Type 0
IsNoteSaid errors text = Appends errors.before.bytes errors.after.bytes text
    ⊎ (Fails errors × AppendsBeginning errors.before.bytes errors.after.bytes text)

-- what was printed and said is of one plan
abbrev pub IsKeptSo : MakeFiles → Option Plan → (List ℕ → List ℕ → Type 0) → Stream → Writes → (output errors : Stream)
    → Type 0
IsKeptSo wanted old Holds boards written output errors = (text : List ℕ) × (notes : List ℕ)
    × Gave most_text_bytes boards.before.bytes boards.after.bytes
    (λ bytes. IsKept wanted old Holds written bytes text notes)
    × Appends output.before.bytes output.after.bytes text × IsNoteSaid errors notes

-- why there is no answer: memory is wanting, or a file can't be written
abbrev pub IsUnkept : Refused → Type 0
IsUnkept why = (why ≡ refused.NoMemory) ⊎ (why ≡ refused.Unwritten)
