use Rattle.std.proofs.Common.{refl, string_bytes, sym}
use Rattle.board_kept.proofs.records.is_file_at.Goals as goal

pub returns-in-Some : goal.returns-in-Some
returns-in-Some c = λ yes.
    let same = c.is_the_file.ensures yes in
    (string_bytes c.in-Some.file.now.name, same.0, (c.args.index, c.in-Some.file.now, sym c.in-Some.ensures, refl, same.1))
