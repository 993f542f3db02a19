use Rattle.std.proofs.Common.{◌≡◌, ◌≤◌, ◌⊎◌, length, List, ℕ, Result, Ok, Err, IfOk, IfErr, MatchResult, string_bytes, sym, ◌∙◌, subst}
use Rattle.net_plan.{specs.CertificateReading.{certificate}, specs.CertificateText.{IsCertificateOf}, specs.Refusals.{IsRefused}, specs.Texts.{IsJsonTextOf}, specs.declared.error.PlanError.{PlanError}, proofs.ReadsBack.{one_certificate, not_refused, only_memory}}
use Rattle.plan_values.{specs.CertificateValues.{CertificateValue, certificate_value}, specs.PlanValues.{PlanValue, node_names, plan_value}, specs.declared.certificate.Certificate.{Certificate}}
use Rattle.net_plan.specs.declared.error.PlanError.TheVariants as errors
use Rattle.net_plan.proofs.writing.read_back.Goals as goal

back : (p : PlanValue) (bytes : List ℕ) (v : CertificateValue) → IsJsonTextOf (IsCertificateOf p) bytes v → (r : Result Certificate PlanError)
    → IfOk r (λ c. IsJsonTextOf (IsCertificateOf p) bytes (certificate_value c)) → IfErr r (λ e. IsRefused (certificate (node_names p.nodes)) (IsCertificateOf p) bytes e)
    → MatchResult r (λ c. certificate_value c ≡ v) (λ e. (e ≡ errors.OutOfMemory) ⊎ (e ≡ errors.OverLimit))
back p bytes v stands (Ok c) ok refused = one_certificate p bytes v stands (certificate_value c) ok
back p bytes v stands (Err e) ok refused = not_refused p bytes v stands e refused

within : (p : PlanValue) (bytes : List ℕ) (v : CertificateValue) → IsJsonTextOf (IsCertificateOf p) bytes v → length bytes ≤ 2097152 → (r : Result Certificate PlanError)
    → IfErr r (λ e. IsRefused (certificate (node_names p.nodes)) (IsCertificateOf p) bytes e) → IfErr r (λ e. e ≡ errors.OutOfMemory)
within p bytes v stands short (Ok c) refused = tt
within p bytes v stands short (Err e) refused = only_memory p bytes v stands short e refused

pub returns-clause-same : goal.returns-clause-same
returns-clause-same c = λ well.
    let p = plan_value c.args.plan.now in
    let v = certificate_value c.args.certificate.now in
    let bytes = c.as_bytes.result.now in
    let same : string_bytes c.in-Ok.text ≡ bytes = sym (c.as_bytes.ensures.value ∙ c.as_str.ensures.value) in
    let stands : IsJsonTextOf (IsCertificateOf p) bytes v = subst (λ b. IsJsonTextOf (IsCertificateOf p) b v) same (c.in-Ok.ensures.reads_back well) in
    back p bytes v stands c.certificate_of_text.result c.certificate_of_text.ensures.ok c.certificate_of_text.ensures.refused

pub returns-clause-within : goal.returns-clause-within
returns-clause-within c = λ well few.
    let p = plan_value c.args.plan.now in
    let v = certificate_value c.args.certificate.now in
    let bytes = c.as_bytes.result.now in
    let same : string_bytes c.in-Ok.text ≡ bytes = sym (c.as_bytes.ensures.value ∙ c.as_str.ensures.value) in
    let stands : IsJsonTextOf (IsCertificateOf p) bytes v = subst (λ b. IsJsonTextOf (IsCertificateOf p) b v) same (c.in-Ok.ensures.reads_back well) in
    let short : length bytes ≤ 2097152 = subst (λ b. length b ≤ 2097152) same (c.in-Ok.ensures.short well few) in
    within p bytes v stands short c.certificate_of_text.result c.certificate_of_text.ensures.refused
