use Rattle.std.proofs.Common.{subst}
use Rattle.toml.specs.View.{view}
use Rattle.board_kept.specs.Kept.{AreBytesKept}
use Rattle.board_kept.proofs.records.keeps_record.Goals as goal

pub returns-then-branch : goal.returns-then-branch
returns-then-branch c = λ yes. record {
  handle = c.says_handles.ensures.handle yes;
  next = c.says_handles.ensures.next yes;
  bytes = subst (λ bs. AreBytesKept c.args.files.now c.args.plan.now bs (view c.args.given.now)) c.deref.ensures.value
      (c.in_ok-are_bytes_kept.ensures c.if-branch.true);
}
