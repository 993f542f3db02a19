use Rattle.std.{proofs.Common.{rules, inl, inr}, specs.Prelude.{IsUtf8}}
use Rattle.verify_commands.proofs.Unread.{or_memory}
use Rattle.verify_commands.specs.declared.folder.FolderText.TheVariants as text
use Rattle.verify_commands.proofs.runs.run_lines.Goals as goal

pub returns-clause-unread : goal.returns-clause-unread
returns-clause-unread g c =
    let none : ¬ IsUtf8 c.in_ok-text.text.items = search rules in
    or_memory _ _ _ c.unread.ensures (λ is. inl (text.Lines c.args.name, inr (inr (c.in_ok-text.text.items, c.in_ok-text.ensures.held, none))))
