use Rattle.std.{proofs.Common.{◌≡◌, ◌≤◌, ◌++◌, [], ◌∷◌, length, Some, string_bytes, sym, ap, ◌∙◌, subst}, proofs.lemmas.Str.{IsUtf8-string_bytes}}
use Rattle.serde_json.specs.Read.{read}
use Rattle.net_plan.{specs.CertificateJson.{certificate_data, certificate_text}, specs.Texts.{HasSingleKeys}, proofs.LineEnd.{read_line, single_line}, proofs.ReadsBack.{stands_written}, proofs.ShortText.{short_text}}
use Rattle.plan_values.{specs.CertificateValues.{certificate_value}, specs.PlanValues.{node_names, plan_value}}
use Rattle.net_plan.proofs.writing.text_of_certificate.Goals as goal

pub returns-clause-reads_back : goal.returns-clause-reads_back
returns-clause-reads_back c = λ well.
    let written = certificate_data (node_names (plan_value c.args.plan.now).nodes) (certificate_value c.args.certificate.now) in
    let text = c.in_ok-text.text in
    let back : read (string_bytes c.push_str.new.self) ≡ Some written = ap read c.in_ok-push_str.ensures.bytes ∙ read_line (string_bytes text) ∙ c.in_ok-text.ensures.reads_back in
    let single : HasSingleKeys (string_bytes c.push_str.new.self) = subst HasSingleKeys (sym c.in_ok-push_str.ensures.bytes) (single_line (string_bytes text) c.in_ok-text.ensures.single) in
    (written, (IsUtf8-string_bytes c.push_str.new.self, back), single, stands_written c.args.plan.now c.args.certificate.now well)

pub returns-clause-short : goal.returns-clause-short
returns-clause-short c = λ well few.
    let text : string_bytes c.push_str.new.self ≡ certificate_text (node_names (plan_value c.args.plan.now).nodes) (certificate_value c.args.certificate.now) =
    c.in_ok-push_str.ensures.bytes ∙ ap (λ b. b ++ 10 ∷ []) c.in_ok-text.ensures.text in
    subst (λ b. length b ≤ 2097152) (sym text) (short_text c.args.plan.now c.args.certificate.now well few)
