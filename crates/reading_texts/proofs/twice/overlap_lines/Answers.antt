use Rattle.std.proofs.Common.{◌≡◌, ◌∙◌, ◌+◌, ap, map, string_bytes, rules}
use Rattle.net_plan.specs.Finding.{step_value}
use Rattle.reading_texts.{specs.ReadingLines.{Begins, pointer_text}, specs.TroubleLines.{range_pointer}, proofs.DoubledTold.{overlap_told}}
use Rattle.reading_texts.proofs.twice.overlap_lines.Goals as goal

pub returns : goal.returns
returns c =
    let o = c.args.overlap in
    let here = map step_value c.range_pointer-one.result in
    let there = map step_value c.range_pointer-other.result in
    let is_other : there ≡ range_pointer o.entry (o.range + 1) = c.range_pointer-other.ensures ∙ ap (range_pointer o.entry) c.in-Some.ensures.1 in
    let one : Begins (pointer_text here) c.deref-2.result.now = search rules in
    let other : Begins (pointer_text there) c.deref-3.result.now = search rules in
    overlap_told string_bytes c.args.text.now o here there c.deref-2.result.now c.deref-3.result.now c.in_ok-first.first c.in_ok-second.second c.two_lines.result
    c.range_pointer-one.ensures is_other c.in_ok-first.ensures c.in_ok-second.ensures one other c.two_lines.ensures
