use Rattle.std.{proofs.Common.{◌≡◌, ◌∙◌, [], List, map, ap, sym, subst, string_bytes, rules, true, false}, specs.Prelude.{if◌then◌else◌}, specs.List.{list_any}}
use Rattle.pdr_repository.specs.Records.{entries}
use Rattle.audited_captures.{specs.Lines.{line_value}, specs.RecordLines.{AddsDifferences, AreRecordLines, is_judged, told_differences}, specs.RecordParts.{record_part_value}, specs.declared.lines.Line.{Line}, proofs.LineLaws.{recorded}}
use Rattle.audited_captures.proofs.record_lines.record_lines.Goals as goal

pub returns-then-not-is_some_judged : goal.returns-then-not-is_some_judged
returns-then-not-is_some_judged c =
    let records = entries c.args.records.now in
    let parts = map record_part_value c.args.parts.now in
    let verdicts = c.args.verdicts.now in
    let none : list_any is_judged verdicts ≡ false = search rules in
    subst (λ (ls : List Line). AreRecordLines records parts verdicts (map line_value ls)) (sym c.new-lines.ensures.items)
    (record { counted = sym (ap (λ b. if b then told_differences records parts verdicts else 0) none); compared = sym none })

pub returns : goal.returns
returns c =
    let records = entries c.args.records.now in
    let parts = map record_part_value c.args.parts.now in
    let verdicts = c.args.verdicts.now in
    let some : list_any is_judged verdicts ≡ true = search rules in
    let lines = map line_value c.add_differences.new.lines.items in
    let all = map line_value c.in_ok-all.all.items in
    let told = map line_value c.add_remark.new.lines.items in
    let count = told_differences records parts verdicts in
    let adds : AddsDifferences [] lines count = subst (λ (ls : List Line). AddsDifferences (map line_value ls) lines count) c.new-lines.ensures.items c.in_ok-add_differences.ensures in
    let both = recorded count (string_bytes c.in_ok-text.text) lines all told adds c.in_ok-all.ensures c.in_ok-add_remark.ensures in
    record { counted = both.0 ∙ sym (ap (λ b. if b then count else 0) some); compared = both.1 ∙ sym some }
