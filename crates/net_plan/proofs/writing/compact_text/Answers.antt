use Rattle.std.proofs.Common.{◌≡◌, ◌≤◌, map, false, Some, string_bytes, ap, sym, ◌∙◌, subst}
use Rattle.json.specs.Strict.{HasUniqueKeys}
use Rattle.serde_json.{specs.Data.{depth}, specs.Read.{read}, specs.View.{view}, specs.Written.{compact_text, has_float, outline, IsInOrder}, proofs.Texts.{tokens_from_order}}
use Rattle.net_plan.{specs.CertificateJson.{certificate_data}, specs.Texts.{HasSingleKeys}, proofs.SingleKeys.{single_written}, proofs.WrittenJson.{if_ok, if_both, no_float, few_deep, unique_keys}}
use Rattle.plan_values.{specs.CertificateValues.{certificate_value}, specs.PlanValues.{node_value, node_names}}
use Rattle.net_plan.proofs.writing.compact_text.Goals as goal

pub returns-clause-text : goal.returns-clause-text
returns-clause-text c =
    let v = c.in_ok-certificate_json.field-0 in
    let names = node_names (map node_value c.args.plan.now.nodes.items) in
    let value = certificate_value c.args.certificate.now in
    let seen : view v ≡ certificate_data names value = c.in_ok-certificate_json.ensures ∙ ap (λ ns. certificate_data (node_names (map node_value ns)) value) c.as_slice.ensures.value in
    let none : has_float (view v) ≡ false = ap has_float seen ∙ no_float names value in
    if_ok c.to_string.result (λ s. has_float (view v) ≡ false → string_bytes s ≡ compact_text (view v)) (λ s. string_bytes s ≡ compact_text (certificate_data names value)) c.to_string.ensures.text (λ s is. is none ∙ ap compact_text seen)

pub returns-clause-reads_back : goal.returns-clause-reads_back
returns-clause-reads_back c =
    let v = c.in_ok-certificate_json.field-0 in
    let names = node_names (map node_value c.args.plan.now.nodes.items) in
    let value = certificate_value c.args.certificate.now in
    let seen : view v ≡ certificate_data names value = c.in_ok-certificate_json.ensures ∙ ap (λ ns. certificate_data (node_names (map node_value ns)) value) c.as_slice.ensures.value in
    let few : depth (view v) ≤ 127 = subst (λ d. depth d ≤ 127) (sym seen) (few_deep names value) in
    if_ok c.to_string.result (λ s. depth (view v) ≤ 127 → read (string_bytes s) ≡ Some (view v)) (λ s. read (string_bytes s) ≡ Some (certificate_data names value)) c.to_string.ensures.reads_back (λ s is. is few ∙ ap Some seen)

pub returns-clause-single : goal.returns-clause-single
returns-clause-single c =
    let v = c.in_ok-certificate_json.field-0 in
    let names = node_names (map node_value c.args.plan.now.nodes.items) in
    let value = certificate_value c.args.certificate.now in
    let seen : view v ≡ certificate_data names value = c.in_ok-certificate_json.ensures ∙ ap (λ ns. certificate_data (node_names (map node_value ns)) value) c.as_slice.ensures.value in
    let few : depth (view v) ≤ 127 = subst (λ d. depth d ≤ 127) (sym seen) (few_deep names value) in
    let none : has_float (view v) ≡ false = ap has_float seen ∙ no_float names value in
    let unique : HasUniqueKeys (outline (view v)) = subst (λ d. HasUniqueKeys (outline d)) (sym seen) (unique_keys names value) in
    if_both c.to_string.result (λ s. depth (view v) ≤ 127 → read (string_bytes s) ≡ Some (view v)) (λ s. IsInOrder (string_bytes s) (view v)) (λ s. HasSingleKeys (string_bytes s)) c.to_string.ensures.reads_back c.to_string.ensures.order
    (λ s back order. single_written (string_bytes s) (view v) (outline (view v)) (back few) (tokens_from_order (string_bytes s) (view v) order none) unique)
