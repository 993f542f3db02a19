use Rattle.std.proofs.Common.{Some, string_bytes}
use Rattle.reading_texts.{specs.ReadingLines.{position_text}, proofs.DoubledTold.{begins_there}}
use Rattle.reading_texts.proofs.syntax.json_lines.Goals as goal

pub returns-in_ok-position-in-NotUtf8 : goal.returns-in_ok-position-in-NotUtf8
returns-in_ok-position-in-NotUtf8 c =
    let place = position_text c.args.text.now (Some c.in-NotUtf8.offset) in
    let position = string_bytes c.in_ok-position-in-NotUtf8.position in
    rw c.in-NotUtf8.is (begins_there string_bytes place position _ c.format.result c.in_ok-position-in-NotUtf8.ensures c.format.ensures.ok)

pub returns-in_ok-expected-in-Unreadable : goal.returns-in_ok-expected-in-Unreadable
returns-in_ok-expected-in-Unreadable c =
    let place = position_text c.args.text.now (Some c.in-Unreadable.offset) in
    let position = string_bytes c.in_ok-position-in-Unreadable.position in
    rw c.in-Unreadable.is (begins_there string_bytes place position _ c.format-in-Unreadable.result c.in_ok-position-in-Unreadable.ensures c.format-in-Unreadable.ensures.ok)
