use Rattle.std.proofs.Common.{refl, Some, None}
use Rattle.verify_commands.{specs.Parts.{IsLikeBoard, IsUnlikeBoard, OfBoard}, proofs.Fitting.{says_also}, proofs.Unread.{held_bytes, none_held}}
use Rattle.verify_commands.proofs.boards.add_board.Goals as goal

pub returns-in-None-clause-added : goal.returns-in-None-clause-added
returns-in-None-clause-added g c =
    (None, none_held (g.F.FolderFiles.reads c.args.folder.now) _ c.in_ok-board.field-0 c.in-None.is c.in_ok-board.ensures.held, refl)

pub returns-in_ok-add-in-Some-clause-added : goal.returns-in_ok-add-in-Some-clause-added
returns-in_ok-add-in-Some-clause-added g c =
    let Reads = g.F.FolderFiles.reads c.args.folder.now in
    let Records = g.F.RecordFiles.holds c.args.folder.now in
    let text = c.args.given.now.text.items in
    let board = c.deref.result.now in
    let read = held_bytes Reads _ board c.in_ok-board.field-0 c.in-Some.board c.in-Some.is c.deref.ensures.value c.in_ok-board.ensures.held in
    let told = c.in_ok-judged-in-Some.ensures in (
      Some board,
      read,
      (
        c.in_ok-judged-in-Some.judged,
        c.in_ok-add-in-Some.ensures,
        (
          told.part,
          says_also c.in_ok-judged-in-Some.judged.verdict (IsLikeBoard Records board text) (OfBoard Reads (λ b. IsLikeBoard Records b text))
              (IsUnlikeBoard Records board text) (OfBoard Reads (λ b. IsUnlikeBoard Records b text)) ⊥ (λ good. (board, read, good)) (λ bad. (board, read, bad)) told.verdict,
        ),
      ),
    )
