-- What is made of a board and of the files that its records name.
use Rattle.std.specs.Prelude.{◌≡◌, ℕ, List, Some, slice_get, string_bytes}
use Rattle.board.specs.declared.board.RecordFile.{RecordFile}
use Rattle.board_made.{specs.declared.answer.BoardAnswer.{BoardAnswer}, specs.declared.answer.BoardAnswer.TheVariants.{Made, NoPlan, Unread}, specs.Made.{IsMadeOf, IsUnmadeOf, IsUnreadLine, ReadsBack}}

-- each of the files holds its bytes, by its name
abbrev pub AreHeld : (List ℕ → List ℕ → Type 0) → List RecordFile → Type 0
AreHeld Holds files =
    (i : ℕ) (file : RecordFile) → slice_get files i ≡ Some file → Holds (string_bytes file.name) file.bytes.items

-- a plan that is made of the board, and of files that hold what its records name, with its certificate
abbrev pub IsMadeBy : (List ℕ → List ℕ → Type 0) → (board text certified : List ℕ) → Type 0
IsMadeBy Holds board text certified =
    (files : List RecordFile) × AreHeld Holds files × IsMadeOf files board text certified

-- why no plan is made of them
abbrev pub IsUnmadeBy : (List ℕ → List ℕ → Type 0) → (board text : List ℕ) → Type 0
IsUnmadeBy Holds board text = (files : List RecordFile) × AreHeld Holds files × IsUnmadeOf files board text

-- what is answered of a board and of files that hold what its records name
abbrev pub IsAnswerWith : (List ℕ → List ℕ → Type 0) → List ℕ → BoardAnswer → Type 0
IsAnswerWith Holds board (Made made) =
    IsMadeBy Holds board (string_bytes made.plan) (string_bytes made.certificate) × ReadsBack made
IsAnswerWith Holds board (NoPlan reason) = IsUnmadeBy Holds board (string_bytes reason)
IsAnswerWith Holds board (Unread line) = IsUnreadLine (string_bytes line)
