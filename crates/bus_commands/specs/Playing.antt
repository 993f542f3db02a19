-- Lines that are taken one after another, and what was written for them.
use Rattle.std.{specs.Prelude.{◌≡◌, ◌⊎◌, ℕ, Bool, List, [], ◌∷◌, ◌++◌, All, Result, Ok, Err, ◌-◌, ◌^◌, length, ⊤}, specs.Io.KnownBytes.{Appends, Consumes, IsAtEnd}, specs.List.{flat_map}}
use Rattle.command_answers.specs.Answers.{Fails, Stream}
use Rattle.net_plan.{specs.Stream.{Account, AppendsBeginning, HasFailed}, specs.TextFaults.{fault_count, text_error}, specs.declared.error.PlanError.{PlanError}, specs.declared.stream.TextFault.{TextFault}}
use Rattle.bus_commands.{specs.Lines.{GaveLine, GavePart, HasNoEnd}, specs.declared.playing.Stop.{Stop}}
use Rattle.command_answers.specs.declared.refused.Input.TheVariants as input
use Rattle.command_answers.specs.declared.refused.Refused.TheVariants as refused
use Rattle.net_plan.specs.declared.error.PlanError.TheVariants as error
use Rattle.bus_commands.specs.declared.playing.Stop.TheVariants as stop

-- a line, the lines that are sent for it, and what is noted of it
pub record LineTurn : Type 0 where
  pub line : List ℕ
  pub answer : List ℕ
  pub note : List ℕ

-- These lines are taken one after another: at first in this state, and at last in that one. What becomes of a line is
-- said by `Takes`: in a state, what is sent for the line, what is noted of it, and the state then.
abbrev pub TakesTurns : {S : Type 0} → (S → List ℕ → List ℕ → List ℕ → S → Type 0) → S → List LineTurn → S → Type 0
TakesTurns Takes s [] last = last ≡ s
TakesTurns {S} Takes s (t ∷ turns) last =
    (next : S) × Takes s t.line t.answer t.note next × TakesTurns Takes next turns last

-- the lines, each with a line end behind it
abbrev pub lines_of : List LineTurn → List ℕ
lines_of turns = flat_map (λ t. t.line ++ 10 ∷ []) turns

abbrev pub answers_of : List LineTurn → List ℕ
answers_of turns = flat_map (λ t. t.answer) turns

abbrev pub notes_of : List LineTurn → List ℕ
notes_of turns = flat_map (λ t. t.note) turns

-- the lines have no line end in them
abbrev pub AreLines : List LineTurn → Type 0
AreLines turns = All (λ t. HasNoEnd t.line) turns

-- ---- a line

-- what is written for a line was written on both outputs; or standard output failed in the answer, and nothing was
-- noted; or standard error failed in the note
abbrev pub Writes : {T : Type 0} → (answer note : List ℕ) → Result T Stop → (outputs said : Stream) → Type 0
Writes answer note (Ok done) outputs said = Appends outputs.before.bytes outputs.after.bytes answer
    × Appends said.before.bytes said.after.bytes note
Writes answer note (Err (stop.Refused refused.Unwritten)) outputs said =
    Fails outputs × AppendsBeginning outputs.before.bytes outputs.after.bytes answer × (said.after ≡ said.before)
Writes answer note (Err (stop.Refused why)) outputs said = ⊥
Writes answer note (Err stop.Unsaid) outputs said =
    Appends outputs.before.bytes outputs.after.bytes answer
    × Fails said × AppendsBeginning said.before.bytes said.after.bytes note

-- The line that the source gave was taken, and this became of it.
pub record IsGivenLine {S : Type 0} (Stands : S → Type 0) (Takes : S → List ℕ → List ℕ → List ℕ → S → Type 0) (s : S)
    (last : Bool) (ended : Result Bool Stop) (inputs outputs said : Stream) : Type 0 where
  pub turn : LineTurn
  pub next : S
  pub given : GaveLine last inputs.before.bytes inputs.after.bytes turn.line
  pub takes : Takes s turn.line turn.answer turn.note next
  pub stands : Stands next
  pub writes : Writes turn.answer turn.note ended outputs said

-- standard error has failed only where this is why it stops
abbrev pub KeepsRoom : {T : Type 0} → Result T Stop → Stream → Type 0
KeepsRoom (Ok done) said = said.after.failures ≡ said.before.failures
KeepsRoom (Err (stop.Refused why)) said = said.after.failures ≡ said.before.failures
KeepsRoom (Err stop.Unsaid) said = ⊤

-- nothing was written
abbrev pub IsUnwritten : (outputs said : Stream) → Type 0
IsUnwritten outputs said = (outputs.after ≡ outputs.before) × (said.after ≡ said.before)

-- no line could be read: the source failed, or the line is too long
pub record IsUnread (cause : PlanError) (inputs outputs said : Stream) : Type 0 where
  pub why : TextFault
  pub cause_is : cause ≡ text_error why
  pub part : GavePart why inputs.before.bytes inputs.after.bytes
  pub fails : HasFailed inputs.before inputs.after (fault_count why)
  pub unwritten : IsUnwritten outputs said

-- Why no more lines are taken, and what was written then for a line.
abbrev pub BreaksAt : {S : Type 0} → (S → Type 0) → (S → List ℕ → List ℕ → List ℕ → S → Type 0) → S → Stop
    → (inputs outputs said : Stream) → Type 0
BreaksAt Stands Takes s (stop.Refused (refused.Unreadable input.Lines cause)) inputs outputs said =
    IsUnread cause inputs outputs said
BreaksAt Stands Takes s (stop.Refused refused.NoMemory) inputs outputs said = IsUnwritten outputs said
BreaksAt Stands Takes s (stop.Refused refused.Unwritten) inputs outputs said =
    (last : Bool) × IsGivenLine Stands Takes s last (Err (stop.Refused refused.Unwritten)) inputs outputs said
BreaksAt Stands Takes s (stop.Refused why) inputs outputs said = ⊥
BreaksAt Stands Takes s stop.Unsaid inputs outputs said =
    (last : Bool) × IsGivenLine Stands Takes s last (Err stop.Unsaid) inputs outputs said

-- what came of the next line, and whether it was the last one
abbrev pub PlaysLine : {S : Type 0} → (S → Type 0) → (S → List ℕ → List ℕ → List ℕ → S → Type 0) → S
    → Result Bool Stop → (inputs outputs said : Stream) → Type 0
PlaysLine Stands Takes s (Ok last) inputs outputs said = IsGivenLine Stands Takes s last (Ok last) inputs outputs said
PlaysLine Stands Takes s (Err why) inputs outputs said = BreaksAt Stands Takes s why inputs outputs said

-- ---- all lines

-- The source gave these lines whole, and for each of them what is written was written on both outputs.
pub record PlaysWhole {S : Type 0} (Takes : S → List ℕ → List ℕ → List ℕ → S → Type 0) (s : S) (last : S)
    (turns : List LineTurn) (inputs outputs said : Stream) : Type 0 where
  pub takes : TakesTurns Takes s turns last
  pub lines : AreLines turns
  pub read : Consumes inputs.before.bytes inputs.after.bytes (lines_of turns)
  pub answered : Appends outputs.before.bytes outputs.after.bytes (answers_of turns)
  pub noted : Appends said.before.bytes said.after.bytes (notes_of turns)

-- The source gave a text to its end: the lines, joined by line ends. For each of them what is written was written.
pub record PlaysAll {S : Type 0} (Takes : S → List ℕ → List ℕ → List ℕ → S → Type 0) (s : S)
    (inputs outputs said : Stream) : Type 0 where
  pub text : List ℕ
  pub turns : List LineTurn
  pub last : S
  pub takes : TakesTurns Takes s turns last
  pub lines : AreLines turns
  pub joined : text ++ 10 ∷ [] ≡ lines_of turns
  pub read : Consumes inputs.before.bytes inputs.after.bytes text
  pub ends : IsAtEnd inputs.after.bytes
  pub answered : Appends outputs.before.bytes outputs.after.bytes (answers_of turns)
  pub noted : Appends said.before.bytes said.after.bytes (notes_of turns)

-- Some lines were played whole, and at the next one it breaks off; or there were 2^64 - 1 of them.
pub record BreaksOff {S : Type 0} (Takes : S → List ℕ → List ℕ → List ℕ → S → Type 0) (s : S) (why : Stop)
    (inputs outputs said : Stream) : Type 0 where
  pub turns : List LineTurn
  pub between : S
  pub read : Account
  pub written : Account
  pub noted : Account
  pub whole : PlaysWhole Takes s between turns (record { before = inputs.before; after = read })
      (record { before = outputs.before; after = written }) (record { before = said.before; after = noted })
  pub breaks : BreaksAt (λ next. ⊤) Takes between why (record { before = read; after = inputs.after })
      (record { before = written; after = outputs.after }) (record { before = noted; after = said.after })
      ⊎ ((why ≡ stop.Refused (refused.Unreadable input.Lines error.OverLimit)) × (length turns ≡ 2 ^ 64 - 1))

abbrev pub PlaysLines : {S T : Type 0} → (S → List ℕ → List ℕ → List ℕ → S → Type 0) → S → Result T Stop
    → (inputs outputs said : Stream) → Type 0
PlaysLines Takes s (Ok done) inputs outputs said = PlaysAll Takes s inputs outputs said
PlaysLines Takes s (Err why) inputs outputs said = BreaksOff Takes s why inputs outputs said
