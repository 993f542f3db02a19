use Rattle.std.proofs.Common.{◌≡◌, ap, map, string_bytes, rules}
use Rattle.net_plan.specs.Finding.{step_value}
use Rattle.reading_texts.{specs.ReadingLines.{place_text}, proofs.DoubledTold.{value_told}}
use Rattle.reading_texts.proofs.values.value_line.Goals as goal

pub returns : goal.returns
returns c =
    let text = c.args.text.now in
    let offset = c.in_ok-offset.offset in
    let pointer = map step_value c.args.found.now.pointer.items in
    let steps = map step_value c.as_slice-pointer.result.now in
    let same : steps ≡ pointer = ap (map step_value) c.as_slice-pointer.ensures.value in
    let is : c.deref.result.now ≡ place_text text offset steps = search rules in
    value_told string_bytes text pointer steps c.deref.result.now offset c.joined.result same c.in_ok-offset.ensures is c.joined.ensures
