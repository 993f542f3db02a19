use Rattle.bus_captures.proofs.LineLaws.{first_line, only_line}
use Rattle.bus_captures.proofs.text.split_line.Goals as goal

pub returns-then-end-text-clause-lines : goal.returns-then-end-text-clause-lines
returns-then-end-text-clause-lines c = rw c.skip.ensures (first_line c.args.text.now c.before-end.result c.before-end.ensures.place c.if-end-text.true)

pub returns-else-end-text-clause-lines : goal.returns-else-end-text-clause-lines
returns-else-end-text-clause-lines c = only_line c.args.text.now c.before-end.result c.before-end.ensures.place c.if-end-text.false
