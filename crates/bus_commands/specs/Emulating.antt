-- What the end of `emulate` says of what it read and wrote.
use Rattle.std.{specs.Prelude.{◌≡◌, ◌≢◌, ◌⊎◌, ℕ, List, Result, Ok, Err, Some, ⊤}, specs.Io.KnownBytes.{Appends}}
use Rattle.command_answers.{specs.Answers.{AreGiven, AreUnread, BreaksOff, IsFaultText, Refuses, Stream}, specs.Naming.{IsFirstNamed}, specs.declared.refused.Refused.{Refused}, specs.declared.status.Status.{Status}}
use Rattle.emulated_node.specs.Nodes.{NodeState, Setting}
use Rattle.net_plan.specs.Stream.{Account}
use Rattle.plan_values.{specs.declared.certificate.Certificate.{Certificate}, specs.declared.plan.Plan.{Plan}}
use Rattle.net_rules.{specs.Names.{name_of}, specs.Rules.{Accepts}}
use Rattle.bus_commands.{specs.Playing.{IsUnwritten, PlaysLines}, specs.Starting.{IsStart}, specs.Turns.{Takes}, specs.declared.playing.Stop.{Stop}}
use Rattle.command_questions.specs.declared.emulation.Emulation.{Emulation}
use Rattle.command_answers.specs.declared.refused.Refused.TheVariants as refused
use Rattle.command_answers.specs.declared.status.Status.TheVariants as status
use Rattle.bus_commands.specs.declared.playing.Stop.TheVariants as stop

-- no line was read, and nothing was written
abbrev pub IsUntouched : (inputs outputs said : Stream) → Type 0
IsUntouched inputs outputs said = (inputs.after ≡ inputs.before) × IsUnwritten outputs said

-- memory lacks
abbrev pub IsLacking : {T : Type 0} → Result T Stop → Type 0
IsLacking (Ok done) = ⊥
IsLacking (Err (stop.Refused refused.NoMemory)) = ⊤
IsLacking (Err _) = ⊥

-- The planned node n is given the lines from its start on; or memory lacks for it.
abbrev pub AnswersNode : {T : Type 0} → Emulation → Plan → Certificate → ℕ → Result T Stop
    → (inputs outputs said : Stream) → Type 0
AnswersNode emulation plan cert n ended inputs outputs said =
    ((set : Setting) × (s : NodeState) × IsStart emulation.is_configured plan cert n set s
    × PlaysLines (Takes emulation.form set) s ended inputs outputs said)
    ⊎ (IsLacking ended × IsUntouched inputs outputs said)

-- n is the first node of the name, every rule holds of the plan and its certificate, and n is given the lines
pub record Emulates {T : Type 0} (emulation : Emulation) (plan : Plan) (cert : Certificate) (ended : Result T Stop)
    (inputs outputs said : Stream) : Type 0 where
  pub node : ℕ
  pub named : IsFirstNamed plan emulation.node.now node
  pub accepted : Accepts plan cert
  pub answers : AnswersNode emulation plan cert node ended inputs outputs said

-- The plan has a node of the name, and the line of the first fault was written.
pub record TellsFault (emulation : Emulation) (plan : Plan) (cert : Certificate)
    (inputs outputs said : Stream) : Type 0 where
  pub node : ℕ
  pub named : IsFirstNamed plan emulation.node.now node
  pub text : List ℕ
  pub fault : IsFaultText plan cert text
  pub written : Appends outputs.before.bytes outputs.after.bytes text
  pub silent : said.after ≡ said.before
  pub unread : inputs.after ≡ inputs.before

-- Why nothing is emulated: no node has the name; memory lacks; or the output failed in the line of the first fault.
abbrev pub IsUnemulated : Emulation → Plan → Certificate → Stop → (inputs outputs said : Stream) → Type 0
IsUnemulated emulation plan cert (stop.Refused refused.UnknownNode) inputs outputs said =
    ((n : ℕ) → name_of plan n ≢ Some emulation.node.now) × IsUntouched inputs outputs said
IsUnemulated emulation plan cert (stop.Refused refused.NoMemory) inputs outputs said =
    IsUntouched inputs outputs said
IsUnemulated emulation plan cert (stop.Refused refused.Unwritten) inputs outputs said =
    BreaksOff (IsFaultText plan cert) outputs × (inputs.after ≡ inputs.before) × (said.after ≡ said.before)
IsUnemulated emulation plan cert (stop.Refused why) inputs outputs said = ⊥
IsUnemulated emulation plan cert stop.Unsaid inputs outputs said = ⊥

-- what comes of a plan and its certificate, by how the run is to end, or by why it stops
abbrev pub AnswersOn : Emulation → Plan → Certificate → Result Status Stop → (inputs outputs said : Stream) → Type 0
AnswersOn emulation plan cert (Ok status.Yes) inputs outputs said =
    Emulates {T = Status} emulation plan cert (Ok status.Yes) inputs outputs said
AnswersOn emulation plan cert (Ok status.Fault) inputs outputs said =
    TellsFault emulation plan cert inputs outputs said
AnswersOn emulation plan cert (Ok _) inputs outputs said = ⊥
AnswersOn emulation plan cert (Err why) inputs outputs said =
    Emulates {T = Status} emulation plan cert (Err why) inputs outputs said
    ⊎ IsUnemulated emulation plan cert why inputs outputs said

-- the plan and the certificate were not read
pub record AreNotRead (why : Stop) (plans certificates inputs outputs said : Stream) : Type 0 where
  pub refusal : Refused
  pub why_is : why ≡ stop.Refused refusal
  pub unread : AreUnread refusal plans certificates
  pub untouched : IsUntouched inputs outputs said

-- the sources gave a plan and its certificate, of which this is so
abbrev pub AnswersGiven : Emulation → Result Status Stop → (plans certificates inputs outputs said : Stream) → Type 0
AnswersGiven emulation ended plans certificates inputs outputs said = (plan : Plan) × (cert : Certificate)
    × AreGiven plans certificates plan cert × AnswersOn emulation plan cert ended inputs outputs said

abbrev pub AnswersEmulation : Emulation → (plans certificates : Stream) → Result Status Stop
    → (inputs outputs said : Stream) → Type 0
AnswersEmulation emulation plans certificates (Ok ended) inputs outputs said =
    AnswersGiven emulation (Ok ended) plans certificates inputs outputs said
AnswersEmulation emulation plans certificates (Err why) inputs outputs said =
    AnswersGiven emulation (Err why) plans certificates inputs outputs said
    ⊎ AreNotRead why plans certificates inputs outputs said

-- the end of a run that stops: its cause is reported, or standard error has failed
abbrev pub IsStopTold : Stop → Status → Stream → Type 0
IsStopTold (stop.Refused why) ended said = Refuses why ended said
IsStopTold stop.Unsaid ended said = (ended ≡ status.Unreadable) × (said.after ≡ said.before)

-- The run stopped, and behind what was noted till then stands why.
pub record Stops (emulation : Emulation) (plans certificates : Stream) (ended : Status)
    (inputs outputs said : Stream) : Type 0 where
  pub why : Stop
  pub noted : Account
  pub answers : AnswersEmulation emulation plans certificates (Err why) inputs outputs
      (record { before = said.before; after = noted })
  pub told : IsStopTold why ended (record { before = noted; after = said.after })

-- What the end of a run says: with Yes all lines were given, the answers to all of them were written, and what was
-- dropped was noted; with Fault the first fault was told; else the run stopped.
abbrev pub EndsEmulation : Emulation → (plans certificates : Stream) → Status → (inputs outputs said : Stream) → Type 0
EndsEmulation emulation plans certificates status.Yes inputs outputs said =
    AnswersEmulation emulation plans certificates (Ok status.Yes) inputs outputs said
EndsEmulation emulation plans certificates status.Fault inputs outputs said =
    AnswersEmulation emulation plans certificates (Ok status.Fault) inputs outputs said
EndsEmulation emulation plans certificates ended inputs outputs said =
    Stops emulation plans certificates ended inputs outputs said
