use Rattle.std.proofs.Common.{ℕ, List, map, string_bytes, sym, ap, ◌∙◌, subst}
use Rattle.audited_captures.{specs.Audits.{AreAudited, audit_text}, specs.Lines.{line_value}, specs.declared.lines.Line.{Line}}
use Rattle.bus_captures.specs.Values.{entry_value}
use Rattle.audit_commands.{specs.Auditing.{AuditsCapture}, proofs.Audited.{audited_so}}
use Rattle.audit_commands.proofs.audit.answer_checked.Goals as goal

pub returns-clause-answers : goal.returns-clause-answers
returns-clause-answers c =
    let plan = c.args.checked.now.0 in
    let cert = c.args.checked.now.1 in
    let bus = c.args.bus in
    let complete = c.args.is_complete in
    let bytes = c.args.bytes.now in
    let capture = c.in_ok-capture.capture in
    let answer = c.answer_at.result in
    let entries = map entry_value capture.entries.items in
    let audit = c.in_ok-audit.audit in
    let audited = subst (λ (lines : List Line). AreAudited plan cert bus complete entries (map line_value lines) audit.sum) (sym c.deref-2.ensures.value) c.in_ok-audit.ensures in
    let told = c.in_ok-text.ensures ∙ ap (λ (lines : List Line). audit_text (map line_value lines) audit.sum capture.end) (sym c.deref-2.ensures.value) in
    subst (λ (text : List ℕ). AuditsCapture plan cert bus complete bytes answer.status text) (sym c.answer_at.ensures.text)
    (audited_so plan cert bus complete bytes (string_bytes c.in_ok-text.text) answer.status entries (map line_value c.deref-2.result.now) audit.sum capture.end
    c.in_ok-capture.ensures audited told c.answer_at.ensures.matches c.answer_at.ensures.fails c.answer_at.ensures.broken)
