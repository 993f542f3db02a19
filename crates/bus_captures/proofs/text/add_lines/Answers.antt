use Rattle.std.proofs.Common.{◌≡◌, ◌<◌, ◌+◌, ◌∷◌, [], length, arith}
use Rattle.bus_captures.{specs.Captures.{lines_of}, proofs.LineLaws.{first_of, line_read, ends_full, ends_whole}}
use Rattle.bus_captures.proofs.text.add_lines.Goals as goal

pub returns-in-Full : goal.returns-in-Full
returns-in-Full c =
    let line = c.split_line.result.0.now in
    let first = first_of c.split_line.result.1 (lines_of c.lines.left.now) line (λ r. lines_of r.now) c.split_line.ensures.lines in
    ends_full c.args.text.now line c.lines.place (lines_of c.lines.left.now) first.0 c.lines.entries.items c.add_line.new.entries.items
    c.lines.invariant.0 first.1 (rw c.in-Full.is at c.in_ok-add_line.ensures)

pub lines-preserved : goal.lines-preserved
lines-preserved c =
    let line = c.split_line.result.0.now in
    let first : lines_of c.lines.left.now ≡ line ∷ lines_of c.in-Some.rest.now = rw c.in-Some.is at c.split_line.ensures.lines in
    let shorter : length c.in-Some.rest.now < length c.lines.left.now = rw c.in-Some.is at c.split_line.ensures.shorter in
    let within = c.lines.invariant.1 in (
      line_read c.args.text.now line c.lines.place (lines_of c.lines.left.now) (lines_of c.in-Some.rest.now) c.lines.entries.items
          c.add_line.new.entries.items c.lines.invariant.0 first (rw c.in-Done.is at c.in_ok-add_line.ensures),
      omega arith,
    )

pub returns-in-None : goal.returns-in-None
returns-in-None c =
    let line = c.split_line.result.0.now in
    let first : lines_of c.lines.left.now ≡ line ∷ [] = rw c.in-None.is at c.split_line.ensures.lines in
    ends_whole c.args.text.now _ (c.lines.place + 1)
    (line_read c.args.text.now line c.lines.place (lines_of c.lines.left.now) [] c.lines.entries.items
    c.add_line.new.entries.items c.lines.invariant.0 first (rw c.in-Done.is at c.in_ok-add_line.ensures))
