use Rattle.std.{proofs.Common.{List, sym, subst, rules}, proofs.lemmas.List.Sorted.{answers_always}}
use Rattle.pdr_repository.{specs.declared.handle_index.IndexRow.{IndexRow}, specs.Indexes.{IsIndexOf}, proofs.Indexing.{found_none, found_row}}
use Rattle.pdr_repository.proofs.handle_index.HandleIndex.place_of.Goals as goal

pub returns-in-Ok : goal.returns-in-Ok
returns-in-Ok c = λ records index.
    let P : List IndexRow → Type 0 = λ rows. IsIndexOf records rows in
    found_row records c.as_slice-rows.result.now c.args.handle c.in-Ok.at (record { handle = 0; place = 0 }) (subst P (sym c.as_slice-rows.ensures.value) index) c.in-Ok.ensures.bound
    (c.in-Ok.ensures.position (λ (row : IndexRow). row.handle) (answers_always _ _ _ (λ f a r g h. search rules)))

pub returns-in-Err : goal.returns-in-Err
returns-in-Err c = λ records index.
    let P : List IndexRow → Type 0 = λ rows. IsIndexOf records rows in
    found_none records c.as_slice-rows.result.now c.args.handle c.in-Err.field-0 (subst P (sym c.as_slice-rows.ensures.value) index)
    (c.in-Err.ensures.position (λ (row : IndexRow). row.handle) (answers_always _ _ _ (λ f a r g h. search rules)))
