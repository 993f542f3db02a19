-- What `fix` prints of a plan, and what it tells on standard error.
use Rattle.std.{specs.Prelude.{◌≡◌, ◌⊎◌, ℕ, List}, specs.Io.KnownBytes.{Appends}}
use Rattle.net_plan.specs.Stream.{AppendsBeginning}
use Rattle.plan_values.{specs.declared.certificate.Certificate.{Certificate}, specs.declared.plan.Plan.{Plan}}
use Rattle.net_rules.{specs.Rules.{Accepts}, specs.declared.certify_error.CertifyError.{CertifyError}}
use Rattle.command_answers.{specs.declared.status.Status.{Status}, specs.Answers.{Stream, Fails, BreaksOff, GavePlanText, IsReported}, specs.Certifying.{IsRuledOutBy}, specs.UnreadInputs.{IsTextOf}, specs.UnreadTexts.{IsUnreadText}}
use Rattle.plan_fixes.specs.Fixes.{AreFixes}
use Rattle.command_answers.specs.declared.refused.Refused.TheVariants as refused
use Rattle.command_answers.specs.declared.status.Status.TheVariants as status

-- The text is that of a plan to which a certificate fits. The lines tell the edits that lead there.
pub record IsFixedText (text : List ℕ) (plan : Plan) (fixed lines : List ℕ) : Type 0 where
  pub after : Plan
  pub edits : AreFixes text plan lines fixed after
  pub reads : IsTextOf fixed after
  pub certificate : Certificate
  pub accepted : Accepts after certificate

-- The lines tell edits that lead to another plan, which has no certificate either. The line is that of what comes first
-- of what rules them out.
pub record IsUnfixed (text : List ℕ) (plan : Plan) (line lines : List ℕ) : Type 0 where
  pub fixed : List ℕ
  pub after : Plan
  pub edits : AreFixes text plan lines fixed after
  pub obstacle : CertifyError
  pub ruled_out : IsRuledOutBy after obstacle line

-- what is printed where edits led to this plan, which stands in this text: the text, where a certificate fits the plan,
-- or the line of what rules all of them out
abbrev pub EndsIn : List ℕ → Plan → Status → List ℕ → Type 0
EndsIn text plan status.Yes printed = (printed ≡ text) × ((certificate : Certificate) × Accepts plan certificate)
EndsIn text plan status.Fault printed = (obstacle : CertifyError) × IsRuledOutBy plan obstacle printed
EndsIn text plan status.Unreadable printed = ⊥
EndsIn text plan status.NoMemory printed = ⊥

-- a run that prints so of the plan in a text, and tells these lines, ends so
abbrev pub IsMended : List ℕ → Plan → Status → List ℕ → List ℕ → Type 0
IsMended text plan status.Yes printed lines = IsFixedText text plan printed lines
IsMended text plan status.Fault printed lines = IsUnfixed text plan printed lines
IsMended text plan status.Unreadable printed lines = ⊥
IsMended text plan status.NoMemory printed lines = ⊥

-- so it does of the plan that was given, or says why none was
abbrev pub FixesSo : Stream → Status → List ℕ → List ℕ → Type 0
FixesSo plans ended printed lines =
    ((text : List ℕ) × (plan : Plan) × GavePlanText plans text plan × IsMended text plan ended printed lines)
    ⊎ ((ended ≡ status.Unreadable) × IsUnreadText plans printed)

-- the lines were written, and the run ended as is due; or standard error failed in them
abbrev pub AreLinesTold : Status → List ℕ → Status → Stream → Type 0
AreLinesTold due lines ended errors = ((ended ≡ due) × Appends errors.before.bytes errors.after.bytes lines)
    ⊎ ((ended ≡ status.Unreadable) × Fails errors × AppendsBeginning errors.before.bytes errors.after.bytes lines)

-- How an answer and the lines of edits are told: the answer, and then the lines where it is on a plan.
abbrev pub AreBothTold : Status → List ℕ → List ℕ → Status → (output errors : Stream) → Type 0
AreBothTold due printed lines ended output errors =
    (Appends output.before.bytes output.after.bytes printed
    × (((due ≡ status.Unreadable) × (ended ≡ status.Unreadable)) ⊎ AreLinesTold due lines ended errors))
    ⊎ ((ended ≡ status.Unreadable) × Fails output × AppendsBeginning output.before.bytes output.after.bytes printed
    × IsReported refused.Unwritten errors)

-- the outputs were given a text and lines that say so in a run that ends so
abbrev pub GivesBoth : Stream → Status → (output errors : Stream) → Type 0
GivesBoth plans ended output errors = (printed : List ℕ) × (lines : List ℕ) × FixesSo plans ended printed lines
    × Appends output.before.bytes output.after.bytes printed × Appends errors.before.bytes errors.after.bytes lines

-- the text is one that is printed, whatever is told beside it
abbrev pub IsSomeFix : Stream → List ℕ → Type 0
IsSomeFix plans printed = (ended : Status) × (lines : List ℕ) × FixesSo plans ended printed lines

-- the output was given a text, and standard error failed in the lines that tell the edits
abbrev pub IsHalfTold : Stream → (output errors : Stream) → Type 0
IsHalfTold plans output errors = (ended : Status) × (printed : List ℕ) × (lines : List ℕ)
    × FixesSo plans ended printed lines × Appends output.before.bytes output.after.bytes printed
    × Fails errors × AppendsBeginning errors.before.bytes errors.after.bytes lines

-- What the end of the run says of both outputs.
abbrev pub EndsFixed : Stream → Status → (output errors : Stream) → Type 0
EndsFixed plans status.Yes output errors = GivesBoth plans status.Yes output errors
EndsFixed plans status.Fault output errors = GivesBoth plans status.Fault output errors
EndsFixed plans status.Unreadable output errors =
    ((printed : List ℕ) × IsUnreadText plans printed × Appends output.before.bytes output.after.bytes printed)
    ⊎ ((BreaksOff (IsSomeFix plans) output × IsReported refused.Unwritten errors) ⊎ IsHalfTold plans output errors)
EndsFixed plans status.NoMemory output errors = IsReported refused.NoMemory errors
