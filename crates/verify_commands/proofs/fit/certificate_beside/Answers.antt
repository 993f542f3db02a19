use Rattle.std.proofs.Common.{inl, inr}
use Rattle.verify_commands.proofs.Unread.{held_bytes, or_memory}
use Rattle.verify_commands.specs.declared.folder.FolderText.TheVariants as text
use Rattle.verify_commands.proofs.fit.certificate_beside.Goals as goal

pub returns-in-Some-clause-unread : goal.returns-in-Some-clause-unread
returns-in-Some-clause-unread g c =
    let read = held_bytes (g.F.FolderFiles.reads c.args.folder.now) _ c.deref.result.now c.in_ok-text.field-0 c.in-Some.text c.in-Some.is c.deref.ensures.value c.in_ok-text.ensures.held in
    or_memory _ _ _ c.unread.ensures
    (λ is. inl (text.Certificate, inr (inr (c.deref.result.now, read, (c.args.plan.now, c.requires, (c.in-Err.cause, is, c.in-Err.ensures.refused))))))
