use Rattle.std.proofs.Common.{ℕ, Option, sym, subst}
use Rattle.net_questions.{specs.RecordIndexes.{NotesAny}, proofs.FirstNoted.{notes_new}}
use Rattle.net_questions.proofs.lints.record_index.note.Goals as goal

pub returns-in_ok-insert-in-None : goal.returns-in_ok-insert-in-None
returns-in_ok-insert-in-None c =
    subst (λ (o : Option ℕ). NotesAny c.args.first.now o c.args.at c.insert.new.self) (sym c.in-Some.is)
    (notes_new c.args.first.now c.insert.new.self c.in-Some.number c.args.at (sym c.in-None.ensures) c.in_ok-insert-in-None.ensures.updates)
