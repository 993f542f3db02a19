use Rattle.std.{proofs.Common.{string_bytes, subst}, proofs.lemmas.Result.{IfOk-weaker}}
use Rattle.explain_commands.specs.MoveRows.{IsRowTold, file_of}
use Rattle.explain_commands.proofs.explain.moved.rows.first_row.Goals as goal

pub returns : goal.returns
returns c =
    let file = file_of c.args.name.now c.args.given.now in
    IfOk-weaker c.row_text.result _ _ (λ line told. subst (λ i. IsRowTold file c.args.node i (string_bytes line)) c.index_for.ensures told) c.row_text.ensures
