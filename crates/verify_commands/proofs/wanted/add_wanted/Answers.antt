use Rattle.std.proofs.Common.{rules, ◌≡◌, inl, inr, refl, Some, None, Err}
use Rattle.verify_commands.{proofs.Fitting.{wanted_judged}, proofs.Unread.{held_bytes, none_held, or_memory}}
use Rattle.verify_commands.specs.declared.folder.FolderText.TheVariants as text
use Rattle.verify_commands.proofs.wanted.add_wanted.Goals as goal

pub returns-in-None-clause-added : goal.returns-in-None-clause-added
returns-in-None-clause-added g c =
    (None, none_held (g.F.FolderFiles.reads c.args.folder.now) _ c.in_ok-wanted.field-0 c.in-None.is c.in_ok-wanted.ensures.held, refl)

pub returns-in_ok-add-in-Some-clause-added : goal.returns-in_ok-add-in-Some-clause-added
returns-in_ok-add-in-Some-clause-added g c =
    let Reads = g.F.FolderFiles.reads c.args.folder.now in
    let wanted = c.deref.result.now in
    let read = held_bytes Reads _ wanted c.in_ok-wanted.field-0 c.in-Some.wanted c.in-Some.is c.deref.ensures.value c.in_ok-wanted.ensures.held in
    let judged = c.in_ok-judged-in-Some.judged in (
      Some wanted,
      read,
      (
        judged,
        c.in_ok-add-in-Some.ensures,
        (
          c.in_ok-judged-in-Some.ensures.part,
          wanted_judged Reads c.args.plan.now c.args.fit.now wanted judged.verdict c.requires.fit read c.in_ok-judged-in-Some.ensures.verdict,
        ),
      ),
    )

pub returns-in_err-judged-in-Some-clause-unread : goal.returns-in_err-judged-in-Some-clause-unread
returns-in_err-judged-in-Some-clause-unread g c =
    let Reads = g.F.FolderFiles.reads c.args.folder.now in
    let wanted = c.deref.result.now in
    let read = held_bytes Reads _ wanted c.in_ok-wanted.field-0 c.in-Some.wanted c.in-Some.is c.deref.ensures.value c.in_ok-wanted.ensures.held in
    let failed = c.in_err-judged-in-Some in
    let ended : c.from_residual-in_err-judged-in-Some.result ≡ Err failed.field-0.0 = search rules in
    rw ended (or_memory _ _ _ failed.ensures.unread (λ none. inl (text.Wanted, inr (inr (wanted, read, (c.args.plan.now, c.requires.plan, none))))))
