use Rattle.std.proofs.Common.{rules, inr}
use Rattle.board_kept.proofs.records.keeps_terminus.Goals as goal

pub returns-then-branch : goal.returns-then-branch
returns-then-branch c = λ yes. inr (c.in-Some.terminus, c.in-Some.is, c.has_terminus.ensures yes, c.in_ok-is_terminus_given-in-Some.ensures (search rules))
