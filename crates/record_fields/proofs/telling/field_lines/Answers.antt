use Rattle.std.proofs.Common.{string_bytes}
use Rattle.record_fields.proofs.Lines.{next_line}
use Rattle.record_fields.proofs.telling.field_lines.Goals as goal

pub loop-index-preserved : goal.loop-index-preserved
loop-index-preserved c =
    rw (c.in_ok-push_str.ensures.bytes, c.deref.ensures)
    (next_line c.args.fields.now c.loop-index.index (string_bytes c.loop-index.text) (string_bytes c.in_ok-line_at.field-0) c.loop-index-test.true
    c.loop-index.invariant c.in_ok-line_at.ensures)
