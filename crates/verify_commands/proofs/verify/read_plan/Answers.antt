use Rattle.std.proofs.Common.{inl, inr, subst, sym, codes, Some, Ok}
use Rattle.verify_commands.proofs.Unread.{or_memory}
use Rattle.verify_commands.specs.declared.folder.FolderText.TheVariants as text
use Rattle.verify_commands.proofs.verify.read_plan.Goals as goal

pub returns-in-Err-clause-unread : goal.returns-in-Err-clause-unread
returns-in-Err-clause-unread g c =
    let read = subst (λ bytes. g.F.FolderFiles.reads c.args.folder.now (codes "plan.json") (Ok (Some bytes))) (sym c.deref.ensures.value) c.in_ok-text.ensures.held in
    or_memory _ _ _ c.unread.ensures (λ is. inl (text.Plan, inr (inr (c.deref.result.now, read, (c.in-Err.cause, is, c.in-Err.ensures.refused)))))
