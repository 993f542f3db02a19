use Rattle.std.proofs.Common.{rules, inl, subst, Err}
use Rattle.verify_commands.{specs.Folders.{IsFault}, proofs.Unread.{cause_of, or_memory}}
use Rattle.verify_commands.proofs.folder.held_text.Goals as goal

pub returns-clause-unread : goal.returns-clause-unread
returns-clause-unread g c =
    let read = subst (λ path. g.F.FolderFiles.reads c.args.folder.now path (Err c.in-Err.fault)) (search rules) c.in-Err.ensures in
    or_memory _ _ _ c.unread.ensures
    (λ is. inl (c.args.text, inl (c.in-Err.fault, cause_of c.in-Err.fault (subst IsFault c.from.ensures is), read)))
