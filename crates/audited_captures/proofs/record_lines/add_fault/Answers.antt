use Rattle.std.proofs.Common.{◌≡◌, ◌++◌, ◌∷◌, [], ℕ, ap, map, string_bytes, subst, sym}
use Rattle.audited_captures.{specs.Lines.{line_value, difference}, specs.RecordLines.{AddsDifferences, is_fault, one_if}, proofs.MatchLaws.{adds_one}, proofs.RecordLaws.{on_also}, specs.declared.record_readings.Verdict.{Verdict}}
use Rattle.audited_captures.proofs.record_lines.add_fault.Goals as goal

pub returns-in_ok-text-in-Extra : goal.returns-in_ok-text-in-Extra
returns-in_ok-text-in-Extra c =
    let old = map line_value c.args.lines.now.items in
    let new = map line_value c.add_difference.new.lines.items in
    let text = string_bytes c.in_ok-text-in-Extra.text in
    let one : one_if (is_fault c.args.verdict.now) ≡ 1 = ap (λ (v : Verdict). one_if (is_fault v)) c.in-Extra.is in
    on_also (new ≡ old ++ difference text ∷ []) (AddsDifferences old new (one_if (is_fault c.args.verdict.now))) c.add_difference.result (λ is. subst (λ (n : ℕ). AddsDifferences old new n) (sym one) (adds_one old new text is)) c.add_difference.ensures

pub returns-in_ok-text-in-Differs : goal.returns-in_ok-text-in-Differs
returns-in_ok-text-in-Differs c =
    let old = map line_value c.args.lines.now.items in
    let new = map line_value c.add_difference-in-Differs.new.lines.items in
    let text = string_bytes c.in_ok-text-in-Differs.text in
    let one : one_if (is_fault c.args.verdict.now) ≡ 1 = ap (λ (v : Verdict). one_if (is_fault v)) c.in-Differs.is in
    on_also (new ≡ old ++ difference text ∷ []) (AddsDifferences old new (one_if (is_fault c.args.verdict.now))) c.add_difference-in-Differs.result (λ is. subst (λ (n : ℕ). AddsDifferences old new n) (sym one) (adds_one old new text is)) c.add_difference-in-Differs.ensures
