use Rattle.std.proofs.Common.{inl, inr, subst, Ok, option_map}
use Rattle.verify_commands.specs.Folders.{path_of}
use Rattle.verify_commands.proofs.folder.needed_text.Goals as goal

pub returns-in-None-clause-unread : goal.returns-in-None-clause-unread
returns-in-None-clause-unread g c =
    inr (inl (
      c.args.text,
      inr (inl (
        c.requires,
        subst (λ f. g.F.FolderFiles.reads c.args.folder.now (path_of c.args.text) (Ok (option_map (λ b. b.items) f))) c.in-None.is c.in_ok-bytes.ensures.held,
      )),
    ))
