use Rattle.std.{proofs.Common.{◌∙◌, ◌++◌, ◌∷◌, [], ap, sym, arith}, proofs.lemmas.List.{take_all}}
use Rattle.pdr_repository.{specs.Indexes.{rows_of}, proofs.Indexing.{rows_more}}
use Rattle.pdr_repository.proofs.handle_index.rows_by_place.Goals as goal

pub loop-place-preserved : goal.loop-place-preserved
loop-place-preserved c =
    let more = rows_more c.args.records.now c.loop-place.place c.index-records-place.result c.loop-place-test.true c.index-records-place.is in
    record {
      rows = c.push_reserved.ensures.items ∙ ap (λ rows. rows ++ record { handle = c.index-records-place.result.0; place = c.loop-place.place } ∷ []) c.loop-place.invariant.rows ∙ sym more;
      counted = omega arith;
      room = omega arith;
    }

pub returns : goal.returns
returns c = c.loop-place.invariant.rows ∙ ap rows_of (take_all _ c.args.records.now (omega arith))
