use Rattle.std.proofs.Common.{◌∙◌, ◌++◌, sym, ap, List, ℕ}
use Rattle.pdr_record.{specs.Layouts.{entities_fields}, specs.Lists.{entities_value}, specs.FieldLaws.{followed-bytes}}
use Rattle.pdr_record.proofs.entities.Entities.take.Goals as goal

pub returns-clause-field : goal.returns-clause-field
returns-clause-field c =
    let rest = c.bytes.new.self.rest.now in
    c.bytes.ensures.field ∙ ap (λ (bs : List ℕ). bs ++ rest) c.of.ensures.bytes ∙ sym (followed-bytes (entities_fields (entities_value c.of.result)) rest)
