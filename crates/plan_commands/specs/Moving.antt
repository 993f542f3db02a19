-- What the end of `move` says of the plans and the certificate that it read, and of what it wrote.
use Rattle.std.specs.Prelude.{◌≡◌, ℕ, List}
use Rattle.net_rules.specs.MoveRules.{AcceptsMove}
use Rattle.plan_values.{specs.declared.plan.Plan.{Plan}, specs.declared.certificate.Certificate.{Certificate}}
use Rattle.command_answers.{specs.declared.status.Status.{Status}, specs.Answers.{Stream}, specs.Statuses.{yes_line}, specs.Moves.{IsMoveGiven, IsMoveFaultText}}
use Rattle.command_answers.specs.declared.status.Status.TheVariants as status

-- the text answers on two plans and a certificate, in a run that ends so: it is `yes`, and every rule of a move holds
-- of them, or it is the line of their first fault
abbrev pub AnswersMoveOn : Plan → Plan → Certificate → Status → List ℕ → Type 0
AnswersMoveOn before after certificate status.Yes text = AcceptsMove before after certificate × (text ≡ yes_line)
AnswersMoveOn before after certificate status.Fault text = IsMoveFaultText before after certificate text
AnswersMoveOn before after certificate status.Unreadable text = ⊥
AnswersMoveOn before after certificate status.NoMemory text = ⊥

-- so it does of those that were given
abbrev pub AnswersMoveSo : Stream → Stream → Stream → Status → List ℕ → Type 0
AnswersMoveSo befores afters certificates ended text = (before : Plan) × (after : Plan) × (certificate : Certificate)
    × IsMoveGiven befores afters certificates before after certificate
    × AnswersMoveOn before after certificate ended text
