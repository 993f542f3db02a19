use Rattle.std.proofs.Common.{inl, inr, subst, sym, Some, Ok}
use Rattle.verify_commands.{specs.Folders.{events_path}, proofs.Unread.{or_memory}}
use Rattle.verify_commands.specs.declared.folder.FolderText.TheVariants as text
use Rattle.verify_commands.proofs.runs.run_events.Goals as goal

pub returns-clause-unread : goal.returns-clause-unread
returns-clause-unread g c =
    let read = subst (λ bytes. g.F.FolderFiles.reads c.args.folder.now (events_path c.args.name.now) (Ok (Some bytes))) (sym c.deref.ensures.value) c.in_ok-text.ensures.held in
    or_memory _ _ _ c.unread.ensures
    (λ is. inl (text.Events c.args.name, inr (inr (c.deref.result.now, read, (c.args.plan.now, c.requires.plan, (c.in-Err.cause, is, c.in-Err.ensures.refused))))))
