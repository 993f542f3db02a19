-- How an answer is told, and what the end of a run says of it.
use Rattle.std.{specs.Prelude.{◌≡◌, ◌⊎◌, ℕ, List}, specs.Io.KnownBytes.{Appends}}
use Rattle.net_plan.specs.Stream.{AppendsBeginning}
use Rattle.command_answers.{specs.declared.refused.Refused.{Refused}, specs.declared.status.Status.{Status}, specs.Answers.{Stream, Fails, BreaksOff, IsReported, SaysWhy}}
use Rattle.command_answers.specs.declared.refused.Refused.TheVariants as refused
use Rattle.command_answers.specs.declared.status.Status.TheVariants as status

-- The output was given the text, and the run ended as is due; or the output failed in the text, and this is reported.
abbrev pub IsTold : Status → List ℕ → Status → (output errors : Stream) → Type 0
IsTold due text ended output errors = ((ended ≡ due) × Appends output.before.bytes output.after.bytes text)
    ⊎ ((ended ≡ status.Unreadable) × Fails output × AppendsBeginning output.before.bytes output.after.bytes text
    × IsReported refused.Unwritten errors)

-- the text is an answer, in a run that ends in some way
abbrev pub IsSomeAnswer : (Status → List ℕ → Type 0) → List ℕ → Type 0
IsSomeAnswer Answers text = (ended : Status) × Answers ended text

-- the output was given a text that answers in a run that ends so
abbrev pub Gives : (Status → List ℕ → Type 0) → Status → Stream → Type 0
Gives Answers ended output =
    (text : List ℕ) × Answers ended text × Appends output.before.bytes output.after.bytes text

-- why no answer was given: there is none for this cause, or the output failed
abbrev pub IsUngivenFor : (Refused → Type 0) → Stream → Refused → Type 0
IsUngivenFor IsWhy output why = IsWhy why ⊎ ((why ≡ refused.Unwritten) × Fails output)

-- What the end of a run says of what was written on both outputs, by what answers in a run that ends so, and by why
-- there may be no answer.
abbrev pub Ends : (Status → List ℕ → Type 0) → (Refused → Type 0) → Status → (output errors : Stream) → Type 0
Ends Answers IsWhy status.Yes output errors = Gives Answers status.Yes output
Ends Answers IsWhy status.Fault output errors = Gives Answers status.Fault output
Ends Answers IsWhy status.Unreadable output errors =
    Gives Answers status.Unreadable output ⊎ SaysWhy (IsUngivenFor IsWhy output) errors
Ends Answers IsWhy status.NoMemory output errors = IsReported refused.NoMemory errors

-- What the end of a run says of an answer, whichever it is, of the outputs, and of where they are as they were. Where
-- no text answers for what can't be read, the output of a run that ends so is as it was, or failed in an answer.
pub record Concludes (Answers : Status → List ℕ → Type 0) (IsWhy : Refused → Type 0) (ended : Status)
    (output errors : Stream) (untouched quiet : Type 0) : Type 0 where
  pub tells : Ends Answers IsWhy ended output errors
  pub silent : (ended ≡ status.Yes) ⊎ (ended ≡ status.Fault) → quiet
  pub unwritten : ended ≡ status.Unreadable
      → untouched ⊎ Gives Answers status.Unreadable output ⊎ BreaksOff (IsSomeAnswer Answers) output
  pub no_memory : ended ≡ status.NoMemory → untouched

-- The same where an answer tells why any input can't be read, and only want of memory leaves none.
pub record ConcludesOnOutput (Answers : Status → List ℕ → Type 0) (ended : Status) (output errors : Stream)
    (untouched quiet : Type 0) : Type 0 where
  pub tells : Ends Answers (λ why. why ≡ refused.NoMemory) ended output errors
  pub silent : (ended ≡ status.Yes) ⊎ (ended ≡ status.Fault) → quiet
  pub unwritten : ended ≡ status.Unreadable
      → Gives Answers status.Unreadable output ⊎ BreaksOff (IsSomeAnswer Answers) output
  pub no_memory : ended ≡ status.NoMemory → untouched
