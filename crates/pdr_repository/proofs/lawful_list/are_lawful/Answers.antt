use Rattle.std.proofs.Common.{◌≡◌, true, false, sym, ◌∙◌}
use Rattle.pdr_repository.proofs.LawfulLists.{lawful_places, lawful_apart, lawful_spelled}
use Rattle.pdr_repository.proofs.lawful_list.are_lawful.Goals as goal

pub returns-then-are_records : goal.returns-then-are_records
returns-then-are_records c =
    let records = c.args.records.now in
    let spelled = c.are_records.ensures.0 c.if-are_records.true in
    (λ h. lawful_places records (c.have_distinct_handles.ensures.0 h) spelled, λ all. c.have_distinct_handles.ensures.1 (lawful_apart records all))

pub returns-else-are_records : goal.returns-else-are_records
returns-else-are_records c =
    let records = c.args.records.now in (
      λ h. absurd (let no : false ≡ true = sym c.if-are_records.false ∙ h in cc),
      λ all. c.are_records.ensures.1 (lawful_spelled records all),
    )
