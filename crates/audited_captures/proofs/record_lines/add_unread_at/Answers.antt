use Rattle.std.proofs.Common.{◌≡◌, ◌++◌, ◌∷◌, [], List, ℕ, map, string_bytes, refl, ap, sym, subst, rules, true, false}
use Rattle.audited_captures.{specs.Lines.{line_value, difference}, specs.RecordLines.{AddsDifferences, is_unread, one_if}, proofs.MatchLaws.{adds_none, adds_one}, proofs.RecordLaws.{on_also}}
use Rattle.audited_captures.proofs.record_lines.add_unread_at.Goals as goal

pub returns-then-not-is_unread : goal.returns-then-not-is_unread
returns-then-not-is_unread c =
    let lines = map line_value c.args.lines.now.items in
    let read : is_unread c.args.verdicts.now c.args.place ≡ false = search rules in
    adds_none lines lines (one_if (is_unread c.args.verdicts.now c.args.place)) (ap one_if read) refl

pub returns : goal.returns
returns c =
    let old = map line_value c.args.lines.now.items in
    let new = map line_value c.add_difference.new.lines.items in
    let text : List ℕ = string_bytes c.in_ok-text.text in
    let unread : is_unread c.args.verdicts.now c.args.place ≡ true = search rules in
    let one : one_if (is_unread c.args.verdicts.now c.args.place) ≡ 1 = ap one_if unread in
    on_also (new ≡ old ++ difference text ∷ []) (AddsDifferences old new (one_if (is_unread c.args.verdicts.now c.args.place))) c.add_difference.result
    (λ is. subst (λ n. AddsDifferences old new n) (sym one) (adds_one old new text is)) c.add_difference.ensures
