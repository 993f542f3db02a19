use Rattle.std.{proofs.Common.{rules}, proofs.lemmas.List.Sorted.{answers_always}}
use Rattle.pdr_repository.{specs.declared.handle_index.IndexRow.{IndexRow}, proofs.Indexing.{sorted_index}}
use Rattle.pdr_repository.proofs.handle_index.HandleIndex.of.Goals as goal

pub returns : goal.returns
returns c =
    sorted_index c.args.records.now c.in_ok-rows.rows.items c.sort_unstable_by_key.new.self.items c.in_ok-rows.ensures c.sort_unstable_by_key.ensures.permutation
    (c.sort_unstable_by_key.ensures.sorted (λ (row : IndexRow). row.handle) (answers_always _ _ _ (λ f a r g h. search rules)))
