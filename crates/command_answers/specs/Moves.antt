-- What is read for a move from one plan to another, and the line of its fault.
use Rattle.std.specs.Prelude.{◌≡◌, ◌⊎◌, ℕ, List, Some}
use Rattle.net_rules.{specs.declared.move_error.MoveError.{MoveError}, specs.MoveFaults.{NamesFirstMoveFault}}
use Rattle.plan_values.{specs.declared.plan.Plan.{Plan}, specs.declared.certificate.Certificate.{Certificate}}
use Rattle.command_answers.{specs.declared.refused.Refused.{Refused}, specs.Answers.{Stream, GavePlan, GaveCertificate, IsPlanUnread, IsCertificateUnread}}
use Rattle.plan_texts.specs.MoveLines.{move_error_text}

-- one source gave the plan before, one the plan after, and one the certificate, which is read for the plan before
pub record IsMoveGiven (befores afters certificates : Stream) (before after : Plan)
    (certificate : Certificate) : Type 0 where
  pub before_text : GavePlan befores before
  pub after_text : GavePlan afters after
  pub certificate_text : GaveCertificate before certificates certificate

-- the sources gave no two plans with a certificate of the one before
abbrev pub AreWithoutMoveCertificate : Stream → Stream → Stream → Type 0
AreWithoutMoveCertificate befores afters certificates = (before after : Plan) (certificate : Certificate)
    → ¬ IsMoveGiven befores afters certificates before after certificate

-- the text is the line of the first fault of the move
abbrev pub IsMoveFaultText : Plan → Plan → Certificate → List ℕ → Type 0
IsMoveFaultText before after certificate text =
    (error : MoveError) × NamesFirstMoveFault before after certificate error
    × (move_error_text before error ≡ Some text)

-- the text is that of the error
abbrev pub IsMoveErrorText : Plan → MoveError → List ℕ → Type 0
IsMoveErrorText before error text = move_error_text before error ≡ Some text

-- why two plans were not read; the second is read only where the first was given
abbrev pub ArePlansUnread : Refused → Stream → Stream → Type 0
ArePlansUnread why befores afters = IsPlanUnread why befores
    ⊎ ((before : Plan) × GavePlan befores before × IsPlanUnread why afters)

-- why the inputs of a move were not read; the certificate is read only where both plans were given
abbrev pub IsMoveUnread : Refused → Stream → Stream → Stream → Type 0
IsMoveUnread why befores afters certificates = ArePlansUnread why befores afters
    ⊎ ((before : Plan) × (after : Plan) × GavePlan befores before × GavePlan afters after
    × IsCertificateUnread why before certificates)
