use Rattle.std.{proofs.Common.{◌≡◌, ◌+◌, ℕ, length, map, ap, sym, ◌∙◌, subst, arith, rules, true, false}, specs.Prelude.{if◌then◌else◌}, specs.List.{list_any}}
use Rattle.pdr_repository.specs.Records.{entries}
use Rattle.audited_captures.{specs.Lines.{line_value}, specs.RecordLines.{AddsDifferences, fault_count, told_differences, unread_count}, specs.RecordParts.{record_part_value}, specs.RecordReadings.{begins_walk}, proofs.MatchLaws.{adds_both}, proofs.RecordLaws.{on_also}}
use Rattle.audited_captures.proofs.record_lines.add_differences.Goals as goal

pub returns-then-not-is_walk_begun : goal.returns-then-not-is_walk_begun
returns-then-not-is_walk_begun c =
    let faults = fault_count c.args.verdicts.now in
    let rest = unread_count c.args.verdicts.now (length (entries c.args.records.now)) in
    let never : list_any begins_walk (map record_part_value c.args.parts.now) ≡ false = search rules in
    let is : told_differences (entries c.args.records.now) (map record_part_value c.args.parts.now) c.args.verdicts.now ≡ faults =
    ap (λ b. faults + (if b then rest else 0)) never ∙ omega arith in
    subst (λ n. AddsDifferences (map line_value c.args.lines.now.items) (map line_value c.add_faults.new.lines.items) n) (sym is) c.in_ok-add_faults.ensures

pub returns : goal.returns
returns c =
    let verdicts = c.args.verdicts.now in
    let old = map line_value c.args.lines.now.items in
    let mid = map line_value c.add_faults.new.lines.items in
    let new = map line_value c.add_unread.new.lines.items in
    let faults = fault_count verdicts in
    let rest = unread_count verdicts (length (entries c.args.records.now)) in
    let all = told_differences (entries c.args.records.now) (map record_part_value c.args.parts.now) verdicts in
    let begun : list_any begins_walk (map record_part_value c.args.parts.now) ≡ true = search rules in
    let is : all ≡ faults + rest = ap (λ b. faults + (if b then rest else 0)) begun in
    on_also (AddsDifferences mid new rest) (AddsDifferences old new all) c.add_unread.result (λ adds. adds_both old mid new faults rest all is c.in_ok-add_faults.ensures adds) c.add_unread.ensures
