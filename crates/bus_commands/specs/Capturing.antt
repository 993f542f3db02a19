-- What the end of `capture` says of what it read and wrote.
use Rattle.std.specs.Prelude.{◌≡◌, ℕ, List, map}
use Rattle.bus_captures.specs.Written.{written_file}
use Rattle.command_answers.{specs.Answers.{IsFaultText, Stream}, specs.declared.status.Status.{Status}}
use Rattle.plan_values.{specs.declared.certificate.Certificate.{Certificate}, specs.declared.plan.Plan.{Plan}}
use Rattle.net_rules.specs.Rules.{Accepts}
use Rattle.net_runs.{specs.WalkedRuns.{WalkedRun, WalkedTurn}, specs.Walkers.{WalkedEvent, walked_at_start}}
use Rattle.play_commands.specs.Simulating.{AreOfFiles}
use Rattle.bus_commands.specs.Hops.{hops_from}
use Rattle.command_answers.specs.declared.status.Status.TheVariants as status

-- The events are those of a run from the start, and the bytes are the capture file of its hops.
pub record IsRunFile (plan : Plan) (cert : Certificate) (events : List WalkedEvent) (bytes : List ℕ) : Type 0 where
  pub turns : List WalkedTurn
  pub events_are : map (λ (t : WalkedTurn). t.event) turns ≡ events
  pub runs : WalkedRun plan cert turns
  pub file : bytes ≡ written_file (hops_from plan (walked_at_start plan cert) 1 turns)

-- The bytes answer on the plan, the certificate and the events, in a run of the program that ends so: they are such a
-- file, and every rule holds; or they tell the first fault.
abbrev pub AnswersRun : Plan → Certificate → List WalkedEvent → Status → List ℕ → Type 0
AnswersRun plan cert events status.Yes bytes = Accepts plan cert × IsRunFile plan cert events bytes
AnswersRun plan cert events status.Fault bytes = IsFaultText plan cert bytes
AnswersRun plan cert events status.Unreadable bytes = ⊥
AnswersRun plan cert events status.NoMemory bytes = ⊥

-- so they do on what the sources gave
abbrev pub AnswersCapture : Stream → Stream → Stream → Status → List ℕ → Type 0
AnswersCapture plans certificates happenings ended bytes =
    AreOfFiles (λ plan cert events. AnswersRun plan cert events ended bytes) plans certificates happenings
