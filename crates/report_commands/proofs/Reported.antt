-- Pages that answer.
use Rattle.std.{proofs.Common.{◌≡◌, ℕ, List, Some, codes, sym, subst}, specs.Cow.{cow_str_bytes}}
use Rattle.net_check.{specs.declared.check_error.CheckError.{CheckError}, specs.Errors.{NamesFirstFault}}
use Rattle.plan_values.{specs.declared.certificate.Certificate.{Certificate}, specs.declared.plan.Plan.{Plan}}
use Rattle.net_rules.{specs.declared.certify_error.CertifyError.{CertifyError}, specs.Certificates.{NamesObstacle, RulesOutCertificates}, specs.Rules.{Accepts}}
use Rattle.plan_texts.specs.Lines.{obstacle_text}
use Rattle.plan_pages.specs.Pages.{TellsVerdict}
use Rattle.command_answers.{proofs.Obstacles.{not_memory}, specs.declared.answer.Answer.{Answer}, specs.declared.status.Status.{Status}, specs.Answers.{IsErrorText}, specs.Certifying.{IsRuledOutBy}}
use Rattle.report_commands.specs.Reporting.{Reports, ReportsWith}
use Rattle.net_check.specs.declared.check_error.CheckError.TheVariants as check_error
use Rattle.command_answers.specs.declared.status.Status.TheVariants as status

module _ (plan : Plan) (page : List ℕ) (a : Answer) where
  -- so it answers, by the status and the text
  answers_so : (So : Status → List ℕ → Type 0) (due : Status) → So due page → a.status ≡ due → cow_str_bytes a.text ≡ page → So a.status (cow_str_bytes a.text)
  answers_so So due so ended text = subst (λ s. So s (cow_str_bytes a.text)) (sym ended) (subst (So due) (sym text) so)

  -- of a plan with a certificate
  pub fits : (cert : Certificate) → Accepts plan cert → TellsVerdict (codes "yes") (codes "yes: a certificate fits the plan") page
      → a.status ≡ status.Yes → cow_str_bytes a.text ≡ page → Reports plan a.status (cow_str_bytes a.text)
  fits cert accepted told = answers_so (Reports plan) status.Yes (cert, accepted, told)

  -- of a plan without one
  pub ruled_out : (obstacle : CertifyError) (line : List ℕ) → NamesObstacle plan obstacle → RulesOutCertificates plan obstacle
      → obstacle_text plan obstacle ≡ Some line → TellsVerdict (codes "no") line page
      → a.status ≡ status.Fault → cow_str_bytes a.text ≡ page → Reports plan a.status (cow_str_bytes a.text)
  ruled_out obstacle line names none written told =
      let out : IsRuledOutBy plan obstacle line = record { first = names; none = none (not_memory plan obstacle line written); written = written } in
      answers_so (Reports plan) status.Fault (obstacle, line, out, told)

  -- of a plan with the certificate that was given
  pub given_fits : (cert : Certificate) → Accepts plan cert → TellsVerdict (codes "yes") (codes "yes: the certificate fits the plan") page
      → a.status ≡ status.Yes → cow_str_bytes a.text ≡ page → ReportsWith plan cert a.status (cow_str_bytes a.text)
  given_fits cert accepted told = answers_so (ReportsWith plan cert) status.Yes (accepted, told)

  -- of a plan and a certificate with a fault
  pub faulty : (cert : Certificate) (error : CheckError) (line : List ℕ) → NamesFirstFault plan cert error → IsErrorText plan error line
      → TellsVerdict (codes "no") line page → a.status ≡ status.Fault → cow_str_bytes a.text ≡ page → ReportsWith plan cert a.status (cow_str_bytes a.text)
  faulty cert (check_error.Fault fault) line first is told ended text = answers_so (ReportsWith plan cert) status.Fault (line, (fault, first, is), told) ended text
  faulty cert check_error.OutOfMemory line first is told ended text = absurd is
