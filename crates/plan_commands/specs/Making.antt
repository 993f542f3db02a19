-- What the end of `make` says of the board that it read, and of the plan and the certificate that it wrote.
use Rattle.std.{specs.Prelude.{◌≡◌, ◌⊎◌, ℕ, List, Some, codes, slice_get, string_bytes, ⊤}, specs.Io.KnownBytes.{Appends}}
use Rattle.net_plan.{specs.Stream.{TakesMoreThan}, specs.Texts.{Gave}, specs.Limits.{most_text_bytes}}
use Rattle.board.specs.declared.board.RecordFile.{RecordFile}
use Rattle.board_made.{specs.declared.answer.BoardAnswer.{BoardAnswer}, specs.declared.answer.BoardAnswer.TheVariants.{Made, NoPlan, Unread}, specs.Made.{IsMadeOf, IsUnmadeOf, IsUnreadLine, ReadsBack}, specs.Reasons.{IsRowsReason}, specs.Rowed.{IsRowedText}}
use Rattle.board_kept.specs.Rowed.{IsWhole}
use Rattle.plan_values.specs.declared.plan.Plan.{Plan}
use Rattle.plan_commands.specs.declared.make.FileFault.{FileFault}
use Rattle.command_answers.{specs.declared.refused.Refused.{Refused}, specs.declared.status.Status.{Status}, specs.Answers.{Stream, Fails}}
use Rattle.net_plan.specs.declared.error.PlanError.TheVariants as error
use Rattle.plan_commands.specs.declared.make.FileFault.TheVariants as fault
use Rattle.command_answers.specs.declared.refused.Input.TheVariants as input
use Rattle.command_answers.specs.declared.refused.Refused.TheVariants as refused
use Rattle.command_answers.specs.declared.status.Status.TheVariants as status

abbrev pub long_board : List ℕ
long_board = codes "unreadable board: the text is longer than 16777216 bytes\n"

abbrev pub failed_board : List ℕ
failed_board = codes "unreadable board: the file can't be opened or read\n"

-- the source gave no text to its end, too many bytes or it failed, and the line says so
abbrev pub IsWithoutBoard : Stream → List ℕ → Type 0
IsWithoutBoard boards line =
    (TakesMoreThan most_text_bytes boards.before.bytes boards.after.bytes × (line ≡ long_board))
    ⊎ (Fails boards × (line ≡ failed_board))

-- the answer is a line that says why the source gave no text
abbrev pub IsUngivenBoard : Stream → BoardAnswer → Type 0
IsUngivenBoard boards (Made made) = ⊥
IsUngivenBoard boards (NoPlan reason) = ⊥
IsUngivenBoard boards (Unread line) = IsWithoutBoard boards (string_bytes line)

-- the fault of a file is a line that says so, or too little memory
abbrev pub IsFileUnread : FileFault → Type 0
IsFileUnread (fault.Unread line) = IsUnreadLine (string_bytes line)
IsFileUnread fault.OutOfMemory = ⊤

-- each of the files holds its bytes, by its name
abbrev pub AreHeld : (List ℕ → List ℕ → Type 0) → List RecordFile → Type 0
AreHeld Holds files =
    (i : ℕ) (file : RecordFile) → slice_get files i ≡ Some file → Holds (string_bytes file.name) file.bytes.items

-- a plan that is made of the board, and of files that hold what its records name, with its certificate
abbrev pub IsMadeBy : (List ℕ → List ℕ → Type 0) → List ℕ → List ℕ → List ℕ → Type 0
IsMadeBy Holds board text certified =
    (files : List RecordFile) × AreHeld Holds files × IsMadeOf files board text certified

-- why no plan is made of them
abbrev pub IsUnmadeBy : (List ℕ → List ℕ → Type 0) → List ℕ → List ℕ → Type 0
IsUnmadeBy Holds board text = (files : List RecordFile) × AreHeld Holds files × IsUnmadeOf files board text

-- what is answered of a board and of files that hold what its records name; or why they can't be had
abbrev pub IsAnswerWith : (List ℕ → List ℕ → Type 0) → List ℕ → BoardAnswer → Type 0
IsAnswerWith Holds board (Made made) =
    IsMadeBy Holds board (string_bytes made.plan) (string_bytes made.certificate) × ReadsBack made
IsAnswerWith Holds board (NoPlan reason) = IsUnmadeBy Holds board (string_bytes reason)
IsAnswerWith Holds board (Unread line) = IsUnreadLine (string_bytes line)

-- what is answered of the board that a source gave, or why it gave none
abbrev pub IsAnswerOf : (List ℕ → List ℕ → Type 0) → Stream → BoardAnswer → Type 0
IsAnswerOf Holds boards answer =
    Gave most_text_bytes boards.before.bytes boards.after.bytes (λ bytes. IsAnswerWith Holds bytes answer)
    ⊎ IsUngivenBoard boards answer

-- ---- make BOARD

-- The text answers for a board, in a run that ends so: it is a plan that is made of the board, or the reason why none
-- is. Of a text that is no TOML document there is neither.
abbrev pub Makes : (List ℕ → List ℕ → Type 0) → List ℕ → Status → List ℕ → Type 0
Makes Holds board status.Yes text = (certified : List ℕ) × IsMadeBy Holds board text certified
Makes Holds board status.Fault text = IsUnmadeBy Holds board text
Makes Holds board status.Unreadable text = IsUnreadLine text
Makes Holds board status.NoMemory text = ⊥

-- the same of the board that a source gave, or why it gave none
abbrev pub MakesSo : (List ℕ → List ℕ → Type 0) → Stream → Status → List ℕ → Type 0
MakesSo Holds boards ended text =
    Gave most_text_bytes boards.before.bytes boards.after.bytes (λ bytes. Makes Holds bytes ended text)
    ⊎ ((ended ≡ status.Unreadable) × IsWithoutBoard boards text)

-- ---- make BOARD --certificate FILE

-- a plan that is made of the board, whose certificate was written to a stream
abbrev pub IsMadeWith : (List ℕ → List ℕ → Type 0) → Stream → List ℕ → List ℕ → Type 0
IsMadeWith Holds certificates board text = (certified : List ℕ) × IsMadeBy Holds board text certified
    × Appends certificates.before.bytes certificates.after.bytes certified

-- The text answers for a board, as without a certificate.
abbrev pub MakesWith : (List ℕ → List ℕ → Type 0) → Stream → List ℕ → Status → List ℕ → Type 0
MakesWith Holds certificates board status.Yes text = IsMadeWith Holds certificates board text
MakesWith Holds certificates board status.Fault text = IsUnmadeBy Holds board text
MakesWith Holds certificates board status.Unreadable text = IsUnreadLine text
MakesWith Holds certificates board status.NoMemory text = ⊥

-- the same of the board that a source gave, or why it gave none
abbrev pub MakesWithSo : (List ℕ → List ℕ → Type 0) → Stream → Stream → Status → List ℕ → Type 0
MakesWithSo Holds boards certificates ended text =
    Gave most_text_bytes boards.before.bytes boards.after.bytes (λ bytes. MakesWith Holds certificates bytes ended text)
    ⊎ ((ended ≡ status.Unreadable) × IsWithoutBoard boards text)

-- why there is no answer: memory is wanting, or the stream for the certificate failed
abbrev pub IsUnwrittenBy : Stream → Refused → Type 0
IsUnwrittenBy certificates why = (why ≡ refused.NoMemory)
    ⊎ ((why ≡ refused.Unreadable input.Certificate error.Device) × Fails certificates)

-- ---- rows PLAN

-- The lines answer for a plan, which stands in this text, in a run that ends so: they read as the plan with rows, and
-- are its own text where it needs none; or they say why no rows are made, and then it needs some.
abbrev pub IsRowed : List ℕ → Plan → Status → List ℕ → Type 0
IsRowed text plan status.Yes lines = IsRowedText plan lines × (IsWhole plan → lines ≡ text)
IsRowed text plan status.Fault lines = IsRowsReason plan lines × (¬ IsWhole plan)
IsRowed text plan status.Unreadable lines = ⊥
IsRowed text plan status.NoMemory lines = ⊥
