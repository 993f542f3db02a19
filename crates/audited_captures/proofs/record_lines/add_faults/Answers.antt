use Rattle.std.{proofs.Common.{rules, ◌<◌, ◌≤◌, List, length, map, subst}, proofs.lemmas.List.{take_all}}
use Rattle.audited_captures.{specs.Lines.{line_value}, specs.RecordLines.{fault_count, AddsDifferences}, specs.declared.record_readings.Verdict.{Verdict}, proofs.MatchLaws.{faults_step}}
use Rattle.audited_captures.proofs.record_lines.add_faults.Goals as goal

pub loop-verdict-preserved : goal.loop-verdict-preserved
loop-verdict-preserved c =
    let items = c.args.verdicts.now in
    let within : c.loop-verdict.verdict-index < length items = search rules in
    faults_step items c.loop-verdict.verdict-index _ within (map line_value c.args.lines.now.items) (map line_value c.loop-verdict.lines.items) (map line_value c.add_fault.new.lines.items)
    c.loop-verdict.invariant c.in_ok-add_fault.ensures

pub returns : goal.returns
returns c =
    let items = c.args.verdicts.now in
    let i = c.loop-verdict.verdict-index in
    let past : length items ≤ i = search rules in
    subst (λ (vs : List Verdict). AddsDifferences (map line_value c.args.lines.now.items) (map line_value c.loop-verdict.lines.items) (fault_count vs)) (take_all i items past) c.loop-verdict.invariant
