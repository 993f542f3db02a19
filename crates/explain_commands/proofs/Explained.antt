-- What the end of `explain` tells of an answer.
use Rattle.std.{proofs.Common.{◌≡◌, ◌++◌, List, ℕ, Result, Ok, Err, Option, Some, None, inl, inr, sym, subst}, specs.Prelude.{IfOk}, specs.Cow.{cow_str_bytes}}
use Rattle.net_rules.{specs.Faults.{IsFirstFault, site_of}, specs.declared.certify_error.CertifyError.{CertifyError}, specs.declared.fault.Fault.{Fault}, specs.Rules.{Accepts}}
use Rattle.net_explained.{specs.declared.cause.Cause.{Cause}, specs.Causes.{IsCauseAt}}
use Rattle.plan_values.{specs.declared.certificate.Certificate.{Certificate}, specs.declared.plan.Plan.{Plan}}
use Rattle.command_answers.{specs.declared.answer.Answer.{Answer}, specs.declared.inputs.Unread.{Unread}, specs.declared.refused.Refused.{Refused}, specs.declared.status.Status.{Status}, specs.Answers.{Stream, GavePlanText, GaveCertificate}, specs.UnreadInputs.{IsNoPlanBy, IsNoCertificateBy}, proofs.UnreadTexts.{IsUnreadAnswer, plan_told, certificate_told}, specs.Certifying.{IsRuledOutBy}}
use Rattle.explain_commands.specs.Explaining.{IsExplained, ExplainsSo, IsExplainedThere, IsObstacleText, IsToldWithEdits, AreMoreTold, IsFaultTold, both_words, IsBothExplained, IsExplainedWith, ExplainsWithSo, IsFaultExplained, IsRemedyTold}
use Rattle.plan_texts.specs.Lines.{fault_text}
use Rattle.fault_texts.{specs.FaultListLines.{remedy_text}, specs.Places.{IsPlaceTold, obstacle_pointer}}
use Rattle.net_rules.specs.declared.certify_error.CertifyError.TheVariants as error
use Rattle.command_answers.specs.declared.status.Status.TheVariants as status
use Rattle.command_answers.specs.declared.refused.Input.TheVariants as input

-- ---- of a plan

-- the answer on a plan that was given
pub of_given : (name : List ℕ) (plans : Stream) (text : List ℕ) (plan : Plan) (result : Result Answer Refused) → GavePlanText plans text plan
    → IfOk result (λ (a : Answer). IsExplained name text plan a.status (cow_str_bytes a.text)) → IfOk result (λ (a : Answer). ExplainsSo name plans a.status (cow_str_bytes a.text))
of_given name plans text plan (Ok a) given h = inl (text, plan, given, h)
of_given name plans text plan (Err why) given h = tt

-- the answer where none was given
pub of_nothing : (name : List ℕ) (plans : Stream) (u : Unread) (result : Result Answer Refused) → IsNoPlanBy plans u
    → IfOk result (IsUnreadAnswer input.Plan u)
    → IfOk result (λ (a : Answer). ExplainsSo name plans a.status (cow_str_bytes a.text))
of_nothing name plans u (Ok a) by h = inr (h.0, plan_told plans u _ by h.1)
of_nothing name plans u (Err why) by h = tt

-- what explains an obstacle, between its place and how many more faults there are
pub there_written : {A E : Type 0} (bytes : A → List ℕ) (name text : List ℕ) (plan : Plan) (obstacle : CertifyError) (place told more : List ℕ) (r : Result A E)
    → IsPlaceTold name text (obstacle_pointer plan obstacle) place → IsToldWithEdits plan obstacle told → AreMoreTold plan None name more
    → IfOk r (λ t. bytes t ≡ place ++ (told ++ more)) → IfOk r (λ t. IsExplainedThere name text plan obstacle (bytes t))
there_written bytes name text plan obstacle place told more (Ok t) placed explained others written = record {
  place = place;
  told = told;
  more = more;
  placed = placed;
  explained = explained;
  others = others;
  written = written;
}
there_written bytes name text plan obstacle place told more (Err e) placed explained others written = tt

-- the lines of what rules certificates out
pub obstacle_written : {A E : Type 0} (bytes : A → List ℕ) (name text : List ℕ) (plan : Plan) (obstacle : CertifyError) (line rest : List ℕ) (r : Result A E)
    → IsRuledOutBy plan obstacle line → IsExplainedThere name text plan obstacle rest
    → IfOk r (λ t. bytes t ≡ line ++ rest) → IfOk r (λ t. IsObstacleText name text plan (bytes t))
obstacle_written bytes name text plan obstacle line rest (Ok t) out explained written = record {
  obstacle = obstacle;
  line = line;
  rest = rest;
  ruled_out = out;
  explained = explained;
  written = written;
}
obstacle_written bytes name text plan obstacle line rest (Err e) out explained written = tt

-- ---- of a plan and its certificate

module _ (name certified_by text : List ℕ) where
  -- the answer where no certificate was given
  pub of_unread : (plan : Plan) (certificates : Stream) (u : Unread) (result : Result Answer Refused) → IsNoCertificateBy plan certificates u
      → IfOk result (IsUnreadAnswer input.Certificate u)
      → IfOk result (λ (a : Answer). IsExplainedWith name certified_by text plan certificates a.status (cow_str_bytes a.text))
  of_unread plan certificates u (Ok a) by h = inr (h.0, certificate_told plan certificates u _ by h.1)
  of_unread plan certificates u (Err why) by h = tt

  -- the answer on a certificate that was given
  pub of_certificate : (plan : Plan) (certificates : Stream) (cert : Certificate) (result : Result Answer Refused) → GaveCertificate plan certificates cert
      → IfOk result (λ (a : Answer). IsBothExplained name certified_by text plan cert a.status (cow_str_bytes a.text))
      → IfOk result (λ (a : Answer). IsExplainedWith name certified_by text plan certificates a.status (cow_str_bytes a.text))
  of_certificate plan certificates cert (Ok a) given h = inl (cert, given, h)
  of_certificate plan certificates cert (Err why) given h = tt

  -- the answer on both, where the plan was given
  pub of_both : (plans certificates : Stream) (plan : Plan) (result : Result Answer Refused) → GavePlanText plans text plan
      → IfOk result (λ (a : Answer). IsExplainedWith name certified_by text plan certificates a.status (cow_str_bytes a.text))
      → IfOk result (λ (a : Answer). ExplainsWithSo name certified_by plans certificates a.status (cow_str_bytes a.text))
  of_both plans certificates plan (Ok a) given h = inl (text, plan, given, h)
  of_both plans certificates plan (Err why) given h = tt

  -- the answer of a fault
  pub explained_so : (plan : Plan) (cert : Certificate) (result : Result Answer Refused)
      → IfOk result (λ (a : Answer). (a.status ≡ status.Fault) × IsFaultExplained name certified_by text plan cert (cow_str_bytes a.text))
      → IfOk result (λ (a : Answer). IsBothExplained name certified_by text plan cert a.status (cow_str_bytes a.text))
  explained_so plan cert (Ok a) (is, told) =
      let S : Status → Type 0 = λ s. IsBothExplained name certified_by text plan cert s (cow_str_bytes a.text) in subst S (sym is) told
  explained_so plan cert (Err why) told = tt

  -- the lines of the first fault
  pub fault_written : {A E : Type 0} (bytes : A → List ℕ) (plan : Plan) (cert : Certificate) (fault : Fault) (cause : Option Cause) (place told more : List ℕ) (r : Result A E)
      → IsFirstFault plan cert (site_of fault) → IsCauseAt plan (site_of fault) cause → IsPlaceTold name text (obstacle_pointer plan (error.Fault fault)) place
      → IsFaultTold name text plan cert fault cause told → AreMoreTold plan (Some cert) (both_words name certified_by) more
      → IfOk r (λ t. bytes t ≡ fault_text plan fault ++ (place ++ (told ++ more))) → IfOk r (λ t. IsFaultExplained name certified_by text plan cert (bytes t))
  fault_written bytes plan cert fault cause place told more (Ok t) first at_site placed explained others written = record {
    fault = fault;
    cause = cause;
    place = place;
    explained = told;
    more = more;
    first = first;
    at_site = at_site;
    placed = placed;
    told = explained;
    others = others;
    written = written;
  }
  fault_written bytes plan cert fault cause place told more (Err e) first at_site placed explained others written = tt

-- the answer where the plan was not given
pub of_neither : (name certified_by : List ℕ) (plans certificates : Stream) (u : Unread) (result : Result Answer Refused) → IsNoPlanBy plans u
    → IfOk result (IsUnreadAnswer input.Plan u)
    → IfOk result (λ (a : Answer). ExplainsWithSo name certified_by plans certificates a.status (cow_str_bytes a.text))
of_neither name certified_by plans certificates u (Ok a) by h = inr (h.0, plan_told plans u _ by h.1)
of_neither name certified_by plans certificates u (Err why) by h = tt

-- the certificate alone is at fault
pub remedied : {A E : Type 0} (bytes : A → List ℕ) (name text : List ℕ) (plan : Plan) (cert : Certificate) (result : Result A E) → Accepts plan cert
    → IfOk result (λ t. bytes t ≡ remedy_text) → IfOk result (λ t. IsRemedyTold name text plan (bytes t))
remedied bytes name text plan cert (Err e) accepted written = tt
remedied bytes name text plan cert (Ok t) accepted written = inl (cert, accepted, written)
