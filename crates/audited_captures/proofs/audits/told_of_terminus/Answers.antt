use Rattle.std.{proofs.Common.{◌≡◌, ◌∙◌, ◌++◌, ap, map}, proofs.lemmas.List.{map-append}}
use Rattle.plan_values.specs.NodeValues.{name_bytes}
use Rattle.audited_captures.{specs.Lines.{line_value}, specs.Tids.{planned_tid, tid_lines, tid_values}}
use Rattle.audited_captures.proofs.audits.told_of_terminus.Goals as goal

pub returns : goal.returns
returns c =
    let node = c.args.node.now in
    let name = name_bytes node.name in
    let tids = tid_values c.args.tids.now in
    let told : map line_value c.in_ok-lines.lines.items ≡ tid_lines name (planned_tid node) tids =
    c.in_ok-lines.ensures ∙ ap (λ n. tid_lines n c.planned_tid.result tids) c.as_str.ensures.value ∙ ap (λ planned. tid_lines name planned tids) c.planned_tid.ensures in
    ap (map line_value) c.in_ok-append.ensures.items ∙ map-append line_value c.in_ok-lines.lines.items c.args.recorded.items ∙ ap (λ ls. ls ++ map line_value c.args.recorded.items) told
