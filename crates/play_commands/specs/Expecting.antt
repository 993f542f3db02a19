-- What `expect` answers on a plan, its certificate, events, and the lines that are expected.
use Rattle.std.{specs.Prelude.{◌≡◌, ◌⊎◌, ℕ, List, [], Some}, specs.Str.Lines.{lines}}
use Rattle.plan_values.{specs.declared.certificate.Certificate.{Certificate}, specs.declared.plan.Plan.{Plan}}
use Rattle.net_runs.specs.Walkers.{WalkedEvent}
use Rattle.command_answers.{specs.declared.status.Status.{Status}, specs.Answers.{Stream, IsFaultText}, specs.Statuses.{yes_line}}
use Rattle.play_commands.specs.Simulating.{RunsOn}
use Rattle.plan_texts.specs.DifferenceLines.{IsDifferenceText}
use Rattle.command_answers.specs.declared.status.Status.TheVariants as status

-- an output in memory that was given this text, and nothing else
abbrev pub given_only : List ℕ → Stream
given_only text =
    record { before = record { bytes = Some []; failures = 0 }; after = record { bytes = Some text; failures = 0 } }

-- `sim` prints this text of a plan, its certificate and events: what comes of all events, or the line of the fault
abbrev pub IsPrinted : Plan → Certificate → List WalkedEvent → List ℕ → Type 0
IsPrinted plan cert events text = RunsOn plan cert events status.Yes (given_only text) ⊎ IsFaultText plan cert text

-- The text answers whether `sim` prints the lines of the wanted text, in a run that ends so: it is `yes`, and these are
-- the lines of what it prints, or it tells the first line in which they differ.
abbrev pub AnswersLinesOn : Plan → Certificate → List WalkedEvent → (wanted : List ℕ) → Status → List ℕ → Type 0
AnswersLinesOn plan cert events wanted status.Yes text = (printed : List ℕ) × IsPrinted plan cert events printed
    × (lines wanted ≡ lines printed) × (text ≡ yes_line)
AnswersLinesOn plan cert events wanted status.Fault text = (printed : List ℕ) × IsPrinted plan cert events printed
    × IsDifferenceText (lines wanted) (lines printed) text
AnswersLinesOn plan cert events wanted status.Unreadable text = ⊥
AnswersLinesOn plan cert events wanted status.NoMemory text = ⊥
